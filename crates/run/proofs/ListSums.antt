use Rattle.std.proofs.Common.{◌≡◌, ℕ, zero, suc, ◌+◌, Bool, true, false, cond, List, [], ◌∷◌, map, sum_by, filter, refl, arith}
use Rattle.std.proofs.lemmas.List.Sums.{sum_by-append, sum_by-cons, sum_by-le}
use Rattle.std.specs.List.{All}
use Rattle.planning.specs.Placing.{Sum}
use Rattle.run.specs.Events.{joined}

pub sum_of_mapped : {X Y : Type 0} (h : Y → ℕ) (f : X → Y) (xs : List X) → sum_by h (map f xs) ≡ sum_by (λ x. h (f x)) xs
sum_of_mapped h f [] = refl
sum_of_mapped h f (x ∷ xs) =
    omega (arith, sum_by-cons h (f x) (map f xs), sum_by-cons (λ y. h (f y)) x xs, sum_of_mapped h f xs)

-- equal terms, equal sum
pub sum_of_same : {X : Type 0} (h k : X → ℕ) (xs : List X) → All (λ x. h x ≡ k x) xs → sum_by h xs ≡ sum_by k xs
sum_of_same h k [] each = refl
sum_of_same h k (x ∷ xs) each =
    omega (arith, sum_by-cons h x xs, sum_by-cons k x xs, sum_of_same h k xs (λ i d l. each (suc i) d (omega arith)), each 0 x (omega arith))

pub sum_of_none : {X : Type 0} (h : X → ℕ) (xs : List X) → All (λ x. h x ≡ 0) xs → sum_by h xs ≡ 0
sum_of_none h xs each = omega (arith, sum_by-le h 0 xs (λ i d inside. omega (arith, each i d inside)))

-- what is kept by a test sums as all does, where the others count 0
pub sum_of_kept : {X : Type 0} (h : X → ℕ) (test : X → Bool) (xs : List X) → sum_by h (filter test xs) ≡ sum_by (λ x. cond (test x) (h x) 0) xs
sum_of_kept h test [] = refl
sum_of_kept {X} h test (x ∷ xs) =
    omega (arith, one (test x) (filter test xs), sum_by-cons (λ y. cond (test y) (h y) 0) x xs, sum_of_kept h test xs)
  where
    one : (b : Bool) (rest : List X) → sum_by h (cond b (x ∷ rest) rest) ≡ cond b (h x) 0 + sum_by h rest
    one true rest = sum_by-cons h x rest
    one false rest = omega arith

-- lists one after the other sum as their sums do
pub sum_of_joined : {X : Type 0} (h : X → ℕ) (n : ℕ) (f : ℕ → List X) → sum_by h (joined n f) ≡ Sum n (λ i. sum_by h (f i))
sum_of_joined h zero f = refl
sum_of_joined h (suc n) f = omega (arith, sum_by-append h (joined n f) (f n), sum_of_joined h n f)
