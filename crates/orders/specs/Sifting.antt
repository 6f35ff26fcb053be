use Rattle.std.specs.Prelude.{◌≡◌, ℕ, ◌+◌, ◌*◌, ◌<◌, ◌≤◌, Bool, true, List, length, slice_index_or}

-- No child at a place below n stands before its parent, for parents from place `low` on. The
-- children of the element at place p are those at places p * 2 + 1 and p * 2 + 2.
abbrev pub Heaped : {X : Type 0} → (X → X → Bool) → List X → ℕ → ℕ → Type 0
Heaped {X} le xs low n =
    (p k : ℕ) (d : X) → low ≤ p → p * 2 + 1 ≤ k → k ≤ p * 2 + 2 → k < n → le (slice_index_or xs p d) (slice_index_or xs k d) ≡ true

-- c is the place of the first child of j: no child of j stands before it.
pub record FirstChild {X : Type 0} (le : X → X → Bool) (xs : List X) (j c : ℕ) : Type 0 where
  pub from : j * 2 + 1 ≤ c
  pub to : c ≤ j * 2 + 2
  pub inside : c < length xs
  pub first : (k : ℕ) (d : X) → j * 2 + 1 ≤ k → k ≤ j * 2 + 2 → k < length xs → le (slice_index_or xs c d) (slice_index_or xs k d) ≡ true
