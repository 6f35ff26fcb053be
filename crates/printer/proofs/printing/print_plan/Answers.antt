use Rattle.std.proofs.Common.{◌≤◌, ℕ, List, [], ◌∷◌, Err, length, refl, ap, ◌∙◌, ok_or, arith}
use Rattle.std.proofs.lemmas.Result.{err_from_is_err_and}
use Rattle.std.proofs.lemmas.List.{length-take, length-drop}
use Rattle.printer.specs.Text.{lines_of}
use Rattle.printer.specs.declared.refusal.PrintRefusal.TheVariants.{TooShort}
use Rattle.printer.proofs.RowsLined.{rows_lined}
use Rattle.printer.proofs.PlanLines.{lines_of_plan, lines_length, lines_put, text_too_long, text_written}
use Rattle.printer.proofs.RoomLeft.{fits}
use Rattle.printer.proofs.printing.print_plan.Goals as goal

pub returns-in_err-ok_or : goal.returns-in_err-ok_or
returns-in_err-ok_or c =
    let none = c.in_err-ok_or.ensures.ok_part in
    let e = err_from_is_err_and c.from_residual.result c.from_residual.ensures.1 in
    text_too_long c.args.out.now
    (lines_of_plan c.args.plan.now c.hyperperiod.ensures c.frame_size.ensures c.jobs-jobs.ensures c.row_count-slices.ensures c.periods-periods.ensures.first c.periods-periods.ensures.count c.rows-rows.ensures)
    none c.room_left.ensures
    (e.1 ∙ ap Err e.2 ∙ c.in_err-ok_or.ensures.value ∙ ap (λ room. ok_or room TooShort) none)

pub write_lines-at-requires-2-clause-room : goal.write_lines-at-requires-2-clause-room
write_lines-at-requires-2-clause-room c =
    let numbers : List ℕ = c.hyperperiod.result ∷ c.frame_size.result ∷ c.jobs-jobs.result ∷ c.row_count-slices.result ∷ [] in
    let periods = c.periods-periods.result.now in
    let rows = c.rows-rows.result.now in
    let room : length (lines_of numbers periods rows) ≤ length c.args.out.now = fits (lines_of numbers periods rows) c.in_ok-ok_or.ensures.ok_part c.room_left.ensures in
    let lined = ap length (rows_lined 0 rows) in
    let both = lines_length numbers periods rows in
    rw lined (simp (length-take, length-drop) (omega (arith, room, both, c.write_line-at.ensures.put.count, c.write_lines-at.ensures.count)))

pub returns : goal.returns
returns c =
    let numbers : List ℕ = c.hyperperiod.result ∷ c.frame_size.result ∷ c.jobs-jobs.result ∷ c.row_count-slices.result ∷ [] in
    let periods = c.periods-periods.result.now in
    let rows = c.rows-rows.result.now in
    text_written
    (lines_of_plan c.args.plan.now c.hyperperiod.ensures c.frame_size.ensures c.jobs-jobs.ensures c.row_count-slices.ensures c.periods-periods.ensures.first c.periods-periods.ensures.count c.rows-rows.ensures)
    (lines_put numbers periods rows c.args.out.now c.write_line-at.new.out _ c.write_lines-at.new.out c.write_lines-at-2.new.out c.write_line-at.result c.write_lines-at.result c.write_lines-at-2.result refl c.write_line-at.ensures.put c.write_lines-at.ensures
    (rw (rows_lined 0 rows) at c.write_lines-at-2.ensures))
    (fits (lines_of numbers periods rows) c.in_ok-ok_or.ensures.ok_part c.room_left.ensures)
