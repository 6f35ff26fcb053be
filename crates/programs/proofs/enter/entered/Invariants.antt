use Rattle.std.proofs.Common.{take}
use Rattle.programs.specs.Entered.{EnteredIn}
use Rattle.programs.proofs.enter.entered.Given as goal

abbrev pub invariant-loop-task : goal.invariant-loop-task
invariant-loop-task g l =
    EnteredIn g.T.In.Book.means g.T.Enter.questions g.T.Enter.allowed (take l.task-index l.tasks) l.book
