use Rattle.std.proofs.Common.{◌≡◌, ℕ, zero, suc, ◌+◌, ◌*◌, ◌/◌, ◌^◌, ◌<◌, ◌≤◌, length, decimal, ap, ◌∙◌, arith}
use Rattle.std.proofs.lemmas.Fmt.{decimal_digit, decimal_step}
use Rattle.std.proofs.lemmas.List.{length_push}

-- A digit is one byte.
pub digit_length : (n : ℕ) → n < 10 → length (decimal n) ≡ 1
digit_length n small = ap length (decimal_digit n small)

-- Any other number has one digit more than its tenth.
pub tenth_length : (n : ℕ) → 10 ≤ n → n < 2 ^ 32 → length (decimal n) ≡ length (decimal (n / 10)) + 1
tenth_length n large fits = ap length (decimal_step n large (omega arith)) ∙ length_push _ _

-- A number from a power of ten on, and below the next, has as many digits as the power has.
pub power_length : (power n : ℕ) → 10 ^ power ≤ n → n < 10 * 10 ^ power → n < 2 ^ 32 → length (decimal n) ≡ power + 1
power_length zero n low high fits = digit_length n high
power_length (suc power) n low high fits =
    let more = tenth_length n (omega arith) fits in
    omega (arith, more, power_length power (n / 10) (omega arith) (omega arith) (omega arith))
