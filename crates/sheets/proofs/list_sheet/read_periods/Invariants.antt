use Rattle.std.proofs.Common.{◌≡◌, ◌+◌, length}
use Rattle.sheets.specs.Lines.{fields_of}
use Rattle.sheets.proofs.NextNumber.{PeriodsSoFar}
use Rattle.sheets.proofs.list_sheet.read_periods.Given as goal

abbrev pub invariant-loop-number : goal.invariant-loop-number
invariant-loop-number l = (5 + length l.periods.items ≡ l.number) × PeriodsSoFar (fields_of l.line.bytes.now) l.periods.items
