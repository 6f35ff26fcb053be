use Rattle.std.proofs.Common.{◌≡◌, zero, suc, ◌⊎◌, Contains, List, ◌∷◌, refl, inl, inr, arith}

-- what a list with one more element in front has
pub has_cons_cases : {X : Type 0} (x : X) (xs : List X) (y : X) → Contains (x ∷ xs) y → (x ≡ y) ⊎ Contains xs y
has_cons_cases x xs y (zero, h, at_k) = inl at_k
has_cons_cases x xs y (suc k, h, at_k) = inr (k, omega arith, at_k)

pub has_head : {X : Type 0} (x : X) (xs : List X) → Contains (x ∷ xs) x
has_head x xs = (0, omega arith, refl)
