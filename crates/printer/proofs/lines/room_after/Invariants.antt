use Rattle.std.proofs.Common.{◌≡◌, ◌+◌, length, drop}
use Rattle.printer.specs.Text.{lines_text}
use Rattle.printer.proofs.lines.room_after.Given as goal

abbrev pub invariant-loop-place : goal.invariant-loop-place
invariant-loop-place g l =
    l.left + length (lines_text g.T.Line.word g.T.Line.numbers 0 l.items) ≡ l.room + length (lines_text g.T.Line.word g.T.Line.numbers l.place (drop l.place l.items))
