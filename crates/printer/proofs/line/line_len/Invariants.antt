use Rattle.std.proofs.Common.{◌≡◌, ◌+◌, ◌*◌, ◌≤◌, length, drop}
use Rattle.printer.specs.Text.{numbers_text}
use Rattle.printer.proofs.line.line_len.Given as goal

abbrev pub invariant-loop-number : goal.invariant-loop-number
invariant-loop-number l =
    (l.len + length (numbers_text (drop l.number-index l.numbers)) ≡ length l.word + length (numbers_text l.numbers) + 1) × (l.len ≤ 17 + 11 * l.number-index)
