use Rattle.std.proofs.Common.{◌≡◌, ℕ, ◌+◌, ◌-◌, ◌*◌, ◌^◌, ◌<◌, ◌≤◌, true, false, List, [], ◌∷◌, length, get_or, leb, take, refl, sym, ap, ◌∙◌, ⊎_elim, mul-pos, arith, length-take, rules}
use native.Mathlib.Nat.{one-le-pow}
use Rattle.std.specs.Bool.{then_some}
use Rattle.std.specs.Char.{digit_value}
use Rattle.std.specs.Int.{IsInRange}
use Rattle.std.specs.Str.Parse.{AllDigits, digits_value}
use Rattle.std.specs.Str.{all_ascii_digits}
use Rattle.std.proofs.lemmas.Int.Digits.{digits_more, digits_value_more}
use Rattle.std.proofs.lemmas.Str.Parse.{IsNumeralModel, digit_at, numerals_by_value, numerals_by_weight, tells_all_ascii_digits, tells_digits, digits_value_short}
use Rattle.std.proofs.lemmas.Bool.{cases_Bool, cases_lt, le-leb, lt-leb}
use Rattle.std.proofs.lemmas.Bool.Decides.{nat_tests}
use Rattle.sheets.specs.Numerals.{is_number, value}
use Rattle.sheets.specs.Steps.{NumberRead}

-- The value by the weight of the digits is the value that `std` reads.
pub own : IsNumeralModel (λ ds. all_ascii_digits ds ≡ true) value
own = numerals_by_weight _ tells_all_ascii_digits value (search rules)

-- Digits of which the first is not zero are worth something.
some_worth : (bytes : List ℕ) → AllDigits 10 bytes → 0 < length bytes → (get_or bytes 0 0 ≡ 48 → ⊥) → 1 ≤ value bytes
some_worth [] ds some first = absurd (omega arith)
some_worth (b ∷ bs) ds some first =
    let digit : IsInRange 48 57 b = digit_at (b ∷ bs) 0 ds some in
    let above : 0 < b - 48 = omega arith in
    omega (arith, mul-pos above (one-le-pow (length bs) 10 (omega arith)))

digit_value_lem : (b : ℕ) → 48 ≤ b → b ≤ 57 → digit_value b ≡ b - 48
digit_value_lem b low high = grind (arith, nat_tests)

-- One to six digits, the first not zero.
pub record ShortNumeral (bytes : List ℕ) : Type 0 where
  pub digits : all_ascii_digits bytes ≡ true
  pub some : 1 ≤ length bytes
  pub few : length bytes ≤ 6
  pub first : get_or bytes 0 0 ≡ 48 → ⊥

-- They are a number where the value is not too great.
pub number_read : (bytes : List ℕ) → ShortNumeral bytes → NumberRead bytes (then_some (leb (value bytes) 200000) (value bytes))
number_read bytes short =
    let worth = some_worth bytes (own.to bytes short.digits) short.some short.first in
    let digits = short.digits in
    let some = short.some in
    let few = short.few in
    let first = short.first in
    ⊎_elim
    (λ (great : 200000 < value bytes). rw (lt-leb (value bytes) 200000 great) (grind (arith, nat_tests)))
    (λ (small : value bytes ≤ 200000). rw (le-leb (value bytes) 200000 small) ((grind (arith, nat_tests)), refl, worth, small))
    (cases_lt 200000 (value bytes))

module _ (bytes : List ℕ) where
  -- A byte that is no digit is in no number.
  pub no_digit : (i : ℕ) → i < length bytes → (IsInRange 48 57 (get_or bytes i 0) → ⊥) → is_number bytes ≡ false
  no_digit i below none =
      ⊎_elim
      (λ digits. absurd (none (digit_at bytes i (own.to bytes digits) below)))
      (λ other. grind arith)
      (cases_Bool (all_ascii_digits bytes))

  module _ (i : ℕ) (below : i < length bytes) (ds : AllDigits 10 (take i bytes)) where
    -- Less than six digits write less than a hundred thousand.
    pub few_small : length bytes ≤ 6 → digits_value 10 (take i bytes) < 10 ^ 5
    few_small few =
        digits_value_short (numerals_by_value (AllDigits 10) tells_digits) (take i bytes) 5 ds (simp length-take (omega arith))

    -- One digit more.
    module _ (low : 48 ≤ get_or bytes i 0) (high : get_or bytes i 0 ≤ 57) where
      pub more_digits : AllDigits 10 (take (i + 1) bytes)
      more_digits = digits_more 10 bytes i below ds (rw (digit_value_lem (get_or bytes i 0) low high) (omega arith))

      pub more_value : digits_value 10 (take i bytes) * 10 + (get_or bytes i 0 - 48) ≡ digits_value 10 (take (i + 1) bytes)
      more_value = sym (digits_value_more 10 bytes i below ∙ ap (λ d. digits_value 10 (take i bytes) * 10 + d) (digit_value_lem (get_or bytes i 0) low high))
