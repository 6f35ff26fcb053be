use Rattle.std.proofs.Common.{◌≡◌, ℕ, ◌+◌, ◌-◌, ◌*◌, ◌/◌, ◌%◌, ◌<◌, ◌≤◌, min, Bool, true, Some, sym, ap, ◌∙◌, subst, ⊎_elim, mul-le-mul_right, mul_comm, mul-le-mul_left, zero-mul, arith}
use native.Mathlib.Nat.{mul-mod_left}
use Rattle.std.proofs.lemmas.Bool.{cases_lt}
use Rattle.books.specs.Meaning.{LeastFrom}
use Rattle.planning.specs.Hyperperiod.{ServesTask}
use Rattle.planning.specs.Multiples.{Asked, Bounds, BoundsFor, Lowered, LoweredBy}
use Rattle.std.specs.Int.{div_ceil}
use Rattle.planning.proofs.Steps.{steps_least, steps_reach, whole_quotient}

-- the least number from `low` on that passes is at most any other that does
pub least_at_most : (test : ℕ → Bool) (low p q : ℕ) → LeastFrom test low (Some p) → low ≤ q → test q ≡ true → p ≤ q
least_at_most test low p q l h t =
    ⊎_elim {C = p ≤ q} (λ below. absurd (l.2 q h below t)) (λ r. r) (cases_lt q p)

module _ (a : Asked) (bound best : ℕ) (before : Lowered a bound best) where
  -- a bound that falls again, to a number that serves the task, is lowered from the first one on
  pub lowered_again : (new : ℕ) → new ≤ best → a.from ≤ new → (new < best → ServesTask a.book new a.task) → Lowered a bound new
  lowered_again new h f s =
      record {
        most = omega arith;
        reaches = f;
        serves = λ b.
            ⊎_elim {C = ServesTask a.book new a.task} s (λ r. subst (λ n. ServesTask a.book n a.task) (omega arith) (before.serves (omega arith))) (cases_lt new best);
      }

  -- one more period: its least multiple that reaches `from` bounds all the others
  pub period_more : (low p k new : ℕ) → Bounds a best (λ q. q < low) → LeastFrom (a.book.allowed a.task) low (Some p) → 1 ≤ p → k ≡ div_ceil a.from p → new ≡ min best (k * p) → Lowered a bound new × Bounds a new (λ q. q < p + 1)
  period_more low p k new bounds l some steps e = let reaches : a.from ≤ k * p = steps_reach a.from p k steps some in (
    lowered_again new (omega arith) (omega (arith, before.reaches)) (λ b. let is : k * p ≡ new = omega arith in (p, (l.1, subst (λ n. n % p ≡ 0) is (mul-mod_left k p)))),
    λ q j known below r.
        ⊎_elim {C = new ≤ j * q}
        (λ early. omega (arith, bounds q j known early r))
        (λ late.
        let same : p ≡ q = omega (arith, least_at_most (a.book.allowed a.task) low p q l late known) in
        let k_le : k ≤ j = subst (λ n. a.from ≤ j * n → k ≤ j) same (steps_least a.from p k steps some j) r in
        let kq : k * p ≡ k * q = ap (λ n. k * n) same in
        omega (arith, mul-le-mul_right q k_le))
        (cases_lt q low),
  )

  -- one more quotient: what bounds its multiples bounds all those by a factor from it on
  pub quotient_more : (k most f : ℕ) → 0 < k → f ≡ div_ceil a.from k → BoundsFor a best k most → (new : ℕ) → new ≤ best → ((q : ℕ) → a.book.allowed a.task q ≡ true → f ≤ q → new ≤ k * q) → BoundsFor a new (k - 1) most
  quotient_more k most f some steps bounds new h at_k q j known low high r =
      ⊎_elim {C = new ≤ j * q}
      (λ above. omega (arith, bounds q j known above high r))
      (λ at_most.
      let same : j ≡ k = omega arith in
      let turned : a.from ≤ q * k = subst (λ n. a.from ≤ n) (mul_comm k q) (subst (λ n. a.from ≤ n * q) same r) in
      subst (λ n. new ≤ n * q) (sym same) (at_k q known (steps_least a.from k f steps some q turned)))
      (cases_lt k j)

-- what was asked of the book at one quotient serves the task where it lowered the bound
pub lowered_serves : (a : Asked) (low times old new : ℕ) → LoweredBy a low times old new → new < old → ServesTask a.book new a.task
lowered_serves a low times old new l h =
    let made = l.made h in
    (made.0, (made.1, subst (λ n. n % made.0 ≡ 0) (sym made.3) (mul-mod_left times made.0)))

-- and it does not fall below `from`
pub lowered_reaches : (a : Asked) (low times old new : ℕ) → a.from ≤ low * times → a.from ≤ old → LoweredBy a low times old new → a.from ≤ new
lowered_reaches a low times old new f o l =
    ⊎_elim {C = a.from ≤ new}
    (λ fell. let made = l.made fell in omega (arith, made.3, mul-le-mul_left times made.2, mul_comm low times))
    (λ stayed. omega arith)
    (cases_lt new old)

-- the quotients up to that of the first period bound all multiples of the later ones
pub quotients_all : (a : Asked) (best first most : ℕ) → 1 ≤ a.from → a.from ≤ most * first → BoundsFor a best 0 most → Bounds a best (λ q. first ≤ q)
quotients_all a best first most one reach bounds q j known low r =
    ⊎_elim {C = best ≤ j * q}
    (λ zero. let none : j * q ≡ 0 = ap (λ n. n * q) (let z : j ≡ 0 = omega arith in z) ∙ zero-mul q in absurd (omega arith))
    (λ some.
    ⊎_elim {C = best ≤ j * q}
    (λ beyond.
    let far : a.from ≤ most * q = omega (arith, mul-le-mul_left most low) in
    let pos : 0 < most = ⊎_elim {C = 0 < most} (λ z. let none : most * first ≡ 0 = ap (λ n. n * first) (let y : most ≡ 0 = omega arith in y) ∙ zero-mul first in absurd (omega arith)) (λ p. p) (cases_lt most 1) in
    let near : most ≤ j = omega arith in
    omega (arith, bounds q most known pos (omega arith) far, mul-le-mul_right q near))
    (λ within. bounds q j known some within r)
    (cases_lt most j))
    (cases_lt j 1)

-- a bound on all multiples of allowed periods bounds the numbers that serve the task
pub bounds_serving : (a : Asked) (bound : ℕ) → Bounds a bound (λ _. Unit {0}) → (n : ℕ) → a.from ≤ n → n < bound → ServesTask a.book n a.task → ⊥
bounds_serving a bound bounds n low below (p, d) =
    let is : n / p * p ≡ n = whole_quotient n p d.1 in
    omega (arith, bounds p (n / p) d.0 tt (omega arith))
