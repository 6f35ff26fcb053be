use Rattle.std.proofs.Common.{drop}
use Rattle.printer.specs.Text.{numbers_text}
use Rattle.printer.proofs.Writing.{Writing}
use Rattle.printer.proofs.line.write_numbers.Given as goal

abbrev pub invariant-loop-number : goal.invariant-loop-number
invariant-loop-number l =
    Writing (numbers_text l.numbers) (numbers_text (drop l.number-index l.numbers)) l.initial.out l.out l.at
