use Rattle.planning.proofs.LeastWork.{chosen_least_work}
use Rattle.planning.proofs.laws.chosen_least_work.Goals as goal

pub returns : goal.returns
returns c = chosen_least_work
