use Rattle.planning.proofs.Equivalence.{placing_theorem}
use Rattle.planning.proofs.laws.placing_theorem.Goals as goal

pub returns : goal.returns
returns c = placing_theorem
