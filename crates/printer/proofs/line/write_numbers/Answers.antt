use Rattle.std.proofs.Common.{◌+◌, ◌∷◌, get_or, drop, decimal}
use Rattle.std.proofs.lemmas.List.{at_drop_more}
use Rattle.printer.specs.Text.{numbers_text}
use Rattle.printer.proofs.Writing.{part_written}
use Rattle.printer.proofs.line.write_numbers.Goals as goal

pub loop-number-preserved : goal.loop-number-preserved
loop-number-preserved c =
    let numbers = c.args.numbers.now in
    let i = c.loop-number.number-index in
    part_written (numbers_text numbers) (numbers_text (drop i numbers)) (44 ∷ decimal (get_or numbers i 0)) (numbers_text (drop (i + 1) numbers)) c.args.out.now c.loop-number.out
    c.write_field-at.new.out c.loop-number.at c.write_field-at.result
    (at_drop_more numbers_text numbers i 0 c.loop-number-test.true) c.loop-number.invariant c.write_field-at.ensures
