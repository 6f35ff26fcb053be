use Rattle.std.proofs.Common.{◌≡◌, ℕ, ◌+◌, ◌*◌, ◌/◌, ◌%◌, ◌<◌, ◌≤◌, sym, subst, add-mul, lt_of_mul-lt-mul_right, one-mul, div-add-mod', arith}
use Rattle.std.proofs.lemmas.Grind.{div_ceil_times}
use Rattle.std.specs.Int.{div_ceil}

-- The quotient rounded up reaches the number, and no smaller number of steps does.
module _ (n d steps : ℕ) (is : steps ≡ div_ceil n d) (some : 1 ≤ d) where
  pub steps_reach : n ≤ steps * d
  steps_reach = subst (λ k. n ≤ k * d) (sym is) (div_ceil_times n d some).0

  pub steps_least : (k : ℕ) → n ≤ k * d → steps ≤ k
  steps_least k reaches =
      let near : steps * d < n + d = subst (λ k. k * d < n + d) (sym is) (div_ceil_times n d some).1 in
      let below : steps * d < (k + 1) * d = omega (arith, add-mul k 1 d, one-mul d) in
      omega (arith, lt_of_mul-lt-mul_right d below)

-- a number is its quotient times its divisor
pub whole_quotient : (n p : ℕ) → n % p ≡ 0 → n / p * p ≡ n
whole_quotient n p e = omega (arith, div-add-mod' n p)
