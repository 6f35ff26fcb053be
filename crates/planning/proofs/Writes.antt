use Rattle.std.proofs.Common.{ℕ, ◌+◌, ◌<◌, ◌≡◌, ◌≢◌, List, [], ◌∷◌, ◌++◌, length, get_or, set, sym, subst, arith, get_or-set_other, get_or-set_same, below_more}
use Rattle.std.proofs.lemmas.List.{get_or_append_left, get_or_push}

-- what holds at each place below i, and of what is written at i, holds at each place below i + 1
pub each_more_written : {X : Type 0} (P : ℕ → X → Type 0) (xs : List X) (i : ℕ) (v d : X) → i < length xs → ((k : ℕ) → k < i → P k (get_or xs k d)) → P i v → (k : ℕ) → k < i + 1 → P k (get_or (set xs i v) k d)
each_more_written P xs i v d inside before here =
    below_more (λ k. P k (get_or (set xs i v) k d)) i
    (λ k below.
    let other : k ≢ i = omega arith in
    subst (P k) (sym (get_or-set_other xs i k v d other)) (before k below))
    (subst (P i) (sym (get_or-set_same xs i v d inside)) here)

-- and so it does where the element is put to the end of a list of i
pub each_more_pushed : {X : Type 0} (P : ℕ → X → Type 0) (xs : List X) (i : ℕ) (v d : X) → length xs ≡ i → ((k : ℕ) → k < i → P k (get_or xs k d)) → P i v → (k : ℕ) → k < i + 1 → P k (get_or (xs ++ v ∷ []) k d)
each_more_pushed P xs i v d all before here =
    below_more (λ k. P k (get_or (xs ++ v ∷ []) k d)) i
    (λ k below. subst (P k) (sym (get_or_append_left xs (v ∷ []) d k (omega arith))) (before k below))
    (subst (P i) (sym (get_or_push xs v d i all)) here)
