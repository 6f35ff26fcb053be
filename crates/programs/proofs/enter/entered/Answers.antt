use Rattle.std.proofs.Common.{subst}
use Rattle.std.proofs.lemmas.List.{take_all}
use Rattle.programs.specs.Entered.{EnteredIn}
use Rattle.programs.proofs.EnteredMore.{entered-more}
use Rattle.programs.proofs.enter.entered.Goals as goal

pub loop-task-preserved : goal.loop-task-preserved
loop-task-preserved g c =
    entered-more _ _ _ c.args.tasks.now c.loop-task.task-index c.task-item.result c.loop-task.book _ c.loop-task-test.true c.task-item.is
    c.loop-task.invariant (c.enter.result, c.enter.ensures.answer, c.enter.ensures.after)

pub returns : goal.returns
returns g c =
    subst (λ tasks. EnteredIn g.T.In.Book.means g.T.Enter.questions g.T.Enter.allowed tasks c.loop-task.book)
    (take_all c.loop-task.task-index c.args.tasks.now c.loop-task-test.false) c.loop-task.invariant
