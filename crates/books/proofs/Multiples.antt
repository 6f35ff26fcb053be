use Rattle.std.proofs.Common.{◌≡◌, ℕ, ◌+◌, ◌-◌, ◌*◌, ◌/◌, ◌%◌, ◌<◌, ◌≤◌, Bool, true, sym, ap, ◌∙◌, ⊎_elim, arith}
use Rattle.std.proofs.lemmas.Bool.{cases_eq, cases_lt}
use Rattle.std.proofs.Math.Nat.{mod-le, mod_self}
use Rattle.std.specs.Int.{next_multiple_of}
use Rattle.std.proofs.lemmas.Nat.{div-add-mod', mod-mul-add, mod_below}

-- From a number up to the next multiple of the step there is none.
pub no_multiple_between : (a n step : ℕ) → 1 ≤ step → a ≤ n → n < next_multiple_of a step → n % step ≡ 0 → ⊥
no_multiple_between a n step some low high whole =
    let short : (step - a % step) % step ≤ step - a % step = mod-le (step - a % step) step in
    let base : ℕ = a / step * step in
    let split : base + a % step ≡ a = div-add-mod' a step in
    let rest : a % step < step = mod_below a step some in
    let near : n - base < step = omega arith in
    let sum : base + (n - base) ≡ n = omega arith in
    let left : n % step ≡ n - base = ap (λ k. k % step) (sym sum) ∙ mod-mul-add (a / step) step (n - base) near in
    ⊎_elim
    (λ (none : a % step ≡ 0).
    let all : step - a % step ≡ step = omega arith in
    let nothing : (step - a % step) % step ≡ 0 = ap (λ k. k % step) all ∙ mod_self step in
    omega arith)
    (λ part. omega (arith, part))
    (cases_eq (a % step) 0)

-- No number from 1 up to the step is a multiple of it.
pub no_multiple_below : (n step : ℕ) → 1 ≤ n → n < step → n % step ≡ 0 → ⊥
no_multiple_below n step some below whole =
    let zeros : 0 * step + n ≡ n = omega arith in
    let left : n % step ≡ n = ap (λ k. k % step) (sym zeros) ∙ mod-mul-add 0 step n below in
    omega arith

-- Where no multiple passes the test up to `at`, none stands from there to `up`, and nothing passes from
-- there to `end`, no multiple passes up to `end`.
pub no_multiple_passes : (test : ℕ → Bool) (step from at up end : ℕ) → ((n : ℕ) → from ≤ n → n < at → test n ≡ true → n % step ≡ 0 → ⊥) → ((n : ℕ) → at ≤ n → n < up → n % step ≡ 0 → ⊥) → ((n : ℕ) → up ≤ n → n < end → test n ≡ true → ⊥) → (n : ℕ) → from ≤ n → n < end → test n ≡ true → n % step ≡ 0 → ⊥
no_multiple_passes test step from at up end before between after n low high passes whole =
    ⊎_elim
    (λ b. before n low b passes whole)
    (λ a. ⊎_elim (λ b. between n a b whole) (λ u. after n u high passes) (cases_lt n up))
    (cases_lt n at)
