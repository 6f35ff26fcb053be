use Rattle.planning.specs.Charges.{Charged}
use Rattle.planning.proofs.windows.lowest_uncharged.Given as goal

abbrev pub invariant-loop-task : goal.invariant-loop-task
invariant-loop-task l = Charged l.figures l.task
