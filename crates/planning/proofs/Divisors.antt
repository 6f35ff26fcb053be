use Rattle.std.proofs.Common.{◌≡◌, ℕ, ◌+◌, ◌*◌, ◌/◌, ◌%◌, ◌<◌, ◌≤◌, sym, subst, ⊎_elim, mul-le-mul_right, mul_comm, add-mul, lt_of_mul-lt-mul_right, mul-le-mul_left, one-mul, arith}
use native.Mathlib.Nat.{mul-mod_right, le_of_mul-le-mul_left, div-eq_of_eq-mul_right, lt-div-mul-add}
use Rattle.std.proofs.lemmas.Bool.{cases_lt}
use Rattle.planning.proofs.Steps.{whole_quotient}

module _ (n q : ℕ) (divides : n % q ≡ 0) where
  -- a quotient that is not `times` is at least one more
  pub quotient_more : (times : ℕ) → times * q ≤ n → (times * q ≡ n → ⊥) → (times + 1) * q ≤ n
  quotient_more times at_most other =
      let whole : n / q * q ≡ n = whole_quotient n q divides in
      let below : times * q < n = ⊎_elim {C = times * q < n} (λ h. h) (λ h. absurd (other (omega arith))) (cases_lt (times * q) n) in
      let next : times + 1 ≤ n / q = omega (arith, lt_of_mul-lt-mul_right q {m = times} {n = n / q} (omega arith)) in
      omega (arith, mul-le-mul_right q next)

module _ (n times : ℕ) (some : 1 ≤ times) where
  -- the divisor that has the quotient `times`
  pub divisor_is : (q : ℕ) → times * q ≡ n → n / times ≡ q
  divisor_is q e = div-eq_of_eq-mul_right {n = times} {m = n} {k = q} some (sym e)

  pub divisor_divides : (p : ℕ) → p * times ≡ n → n % p ≡ 0
  divisor_divides p e = subst (λ k. k % p ≡ 0) e (mul-mod_right p times)

  -- a divisor with a quotient from `times` on is at most the one that has the quotient `times`
  pub divisor_at_most : (p q : ℕ) → p * times ≡ n → times * q ≤ n → q ≤ p
  divisor_at_most p q e h = le_of_mul-le-mul_left {m = q} {n = p} {k = times} (omega (arith, mul_comm p times)) some

-- past the quotient of the least period there is no divisor
pub no_quotient_left : (n least times q : ℕ) → 1 ≤ least → least ≤ q → n / least < times → times * q ≤ n → ⊥
no_quotient_left n least times q one low past h =
    let reach : (n / least + 1) * least ≤ times * least = mul-le-mul_right least (let z : n / least + 1 ≤ times = omega arith in z) in
    omega (arith, lt-div-mul-add {a = n} {b = least} one, add-mul (n / least) 1 least, one-mul least, mul-le-mul_left times low)
