use Rattle.std.specs.Prelude.{◌≡◌, ℕ, ◌+◌, ◌/◌, ◌<◌, Bool, true, false, All, List, length, slice_index_or}

-- A total order: of two elements one is at most the other, the order passes on from element to
-- element, and two elements that are each at most the other are the same.
pub record TotalOrder {X : Type 0} (le : X → X → Bool) : Type 0 where
  pub total : (x y : X) → le x y ≡ false → le y x ≡ true
  pub trans : (x y z : X) → le x y ≡ true → le y z ≡ true → le x z ≡ true
  pub antisym : (x y : X) → le x y ≡ true → le y x ≡ true → x ≡ y

-- An element is least if it is at most each element of the list.
abbrev pub Least : {X : Type 0} → (X → X → Bool) → X → List X → Type 0
Least le x xs = All (λ y. le x y ≡ true) xs

-- A list is arranged as a heap if no element stands before its parent in the order. The parent of
-- the element at place i + 1 is the one at place i / 2.
abbrev pub Sound : {X : Type 0} → (X → X → Bool) → List X → Type 0
Sound {X} le xs = (i : ℕ) (d : X) → i + 1 < length xs → le (slice_index_or xs (i / 2) d) (slice_index_or xs (i + 1) d) ≡ true
