use Rattle.std.proofs.Common.{codes, ◌++◌, arith}
use Rattle.printer.specs.Text.{line_text, period_lines, slice_lines}
use Rattle.printer.proofs.RowsLined.{rows_lined}
use Rattle.printer.proofs.RoomLeft.{more_left}
use Rattle.printer.proofs.measure.room_left.Goals as goal

pub returns : goal.returns
returns c =
    let periods = c.args.periods.now in
    let rows = c.args.rows.now in
    more_left (line_text (codes "plan") c.args.numbers.now) (period_lines 0 periods ++ slice_lines rows) c.args.room c.in_ok-left.left c.room_after-2.result
    (omega (arith, c.in_ok-left.ensures, c.line_len.ensures.count))
    (more_left (period_lines 0 periods) (slice_lines rows) c.in_ok-left.left c.in_ok-left-2.left c.room_after-2.result c.in_ok-left-2.ensures
    (rw (rows_lined 0 rows) at c.room_after-2.ensures))
