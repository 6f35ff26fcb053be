use Rattle.std.proofs.Common.{drop}
use Rattle.printer.specs.Text.{lines_text}
use Rattle.printer.proofs.Writing.{Writing}
use Rattle.printer.proofs.lines.write_lines.Given as goal

abbrev pub invariant-loop-place : goal.invariant-loop-place
invariant-loop-place g l =
    Writing (lines_text g.T.Line.word g.T.Line.numbers 0 l.items) (lines_text g.T.Line.word g.T.Line.numbers l.place (drop l.place l.items)) l.initial.out l.out l.at
