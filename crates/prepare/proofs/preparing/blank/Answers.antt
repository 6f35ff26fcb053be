use Rattle.std.proofs.Common.{[], ap, ◌∙◌}
use Rattle.std.proofs.lemmas.Result.{IfOk-weaker}
use Rattle.books.specs.Sets.{beside, gridded, lists_of}
use Rattle.sheets.specs.Sheets.{meaning_of}
use Rattle.sheets.proofs.BookOfTasks.{no_tasks}
use Rattle.prepare.proofs.preparing.blank.Goals as goal

pub returns : goal.returns
returns c =
    IfOk-weaker c.planner_on.result _ _
    (λ p made. (made.0, made.1 ∙ ap (λ m. gridded 1 (beside m (lists_of c.new-2.result))) (no_tasks _ c.new.ensures.empty) ∙ ap (λ m. gridded 1 (beside (meaning_of []) m)) (no_tasks _ c.new-2.ensures.empty)))
    c.planner_on.ensures
