use Rattle.planning.proofs.Finer.{divisors_fill}
use Rattle.planning.proofs.laws.divisors_fill.Goals as goal

pub returns : goal.returns
returns c = divisors_fill
