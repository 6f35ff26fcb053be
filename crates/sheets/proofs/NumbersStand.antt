use Rattle.std.proofs.Common.{◌≡◌, ℕ, ◌<◌, ◌≤◌, true, List, length, get_or, decimal, arith}
use Rattle.std.specs.Str.{all_ascii_digits}
use Rattle.std.proofs.lemmas.Fmt.{decimal_nonempty, decimal-digits_value, digits_decimal, first_decimal, length-decimal-le, digits_value-decimal}
use Rattle.std.proofs.lemmas.Bool.Decides.{nat_tests}
use Rattle.sheets.specs.Numerals.{NumbersStand, is_number, value}
use Rattle.sheets.proofs.NumberRead.{own}

-- The digits of a number from 1 to 200,000 are read as one.
read_decimal : (n : ℕ) → 1 ≤ n → n ≤ 200000 → is_number (decimal n) ≡ true
read_decimal n low high =
    let digits = digits_decimal own n (omega arith) in
    let worth = digits_value-decimal own n (omega arith) in
    let some = decimal_nonempty n (omega arith) in
    let few = length-decimal-le 6 n (omega arith) (omega arith) (omega arith) in
    let first = first_decimal n (omega arith) (omega arith) in
    grind (arith, nat_tests)

-- What makes bytes a number.
parts_of_number : (bytes : List ℕ) → is_number bytes ≡ true → (all_ascii_digits bytes ≡ true) × (0 < length bytes) × (get_or bytes 0 0 ≡ 48 → ⊥) × (value bytes ≤ 200000)
parts_of_number bytes h = (grind (arith, nat_tests), grind (arith, nat_tests), (λ e. grind (arith, nat_tests)), grind (arith, nat_tests))

pub numbers_stand : NumbersStand
numbers_stand = record {
  read = λ n low high. (read_decimal n low high, digits_value-decimal own n (omega arith));
  printed = λ bytes h.
      let p = parts_of_number bytes h in
      decimal-digits_value own bytes p.0 p.1 (λ e. absurd (p.2 e)) (omega (arith, p.3));
}
