use Rattle.std.proofs.Common.{◌+◌, ◌-◌, [], ◌∷◌, ◌++◌, length, drop, set, refl, ap, subst, arith}
use borrow.Rule.Slice.PartMut.{put_mid}
use Rattle.std.proofs.lemmas.List.{append_assoc}
use Rattle.printer.specs.Puts.{Puts}
use Rattle.printer.specs.Text.{numbers_text}
use Rattle.printer.proofs.Writing.{byte_put, part_put}
use Rattle.printer.proofs.line.write_line.Goals as goal

pub returns-clause-put : goal.returns-clause-put
returns-clause-put c =
    let out = c.args.out.now in
    let word = c.args.word.now in
    let numbers = numbers_text c.args.numbers.now in
    let at = length word in
    let first = c.copy_from_slice.new.self ++ drop at out in
    let second = put_mid at (length first - at) first c.write_numbers-at.new.out in
    let n = c.write_numbers-at.result in
    let word_put : Puts word out first at = record { count = refl; behind = ap (λ w. w ++ drop at out) c.copy_from_slice.ensures.after } in
    let whole : Puts (word ++ numbers) out second (at + n) = part_put word numbers out first c.write_numbers-at.new.out at n word_put c.write_numbers-at.ensures in
    subst (λ text. Puts text out (set second (at + n) 10) (at + n + 1)) (append_assoc word numbers (10 ∷ [])) (byte_put (word ++ numbers) out second (at + n) 10 whole (omega arith))
