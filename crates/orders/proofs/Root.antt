-- The first element of a list that is arranged as a heap is least.
use Rattle.std.proofs.Common.{◌≡◌, ℕ, zero, suc, ◌-◌, ◌/◌, ◌<◌, ◌≤◌, Bool, true, List, length, get_or, refl, ap, ⊎_elim, arith}
use Rattle.std.proofs.lemmas.Bool.{cases_eq}
use Rattle.orders.specs.Order.{TotalOrder, Sound, Least}
use Rattle.orders.proofs.Orders.{by, itself}
use Rattle.orders.proofs.Parents.{heaped_from_sound}

module _ {X : Type 0} (le : X → X → Bool) (o : TotalOrder le) where
  -- fuel bounds the number of steps from k up to the root
  root : (xs : List X) (d : X) → Sound le xs → (fuel k : ℕ) → k ≤ fuel → k < length xs → le (get_or xs 0 d) (get_or xs k d) ≡ true
  root xs d h zero k few f =
      let first : k ≡ 0 = omega arith in
      by le _ _ _ _ refl (ap (λ m. get_or xs m d) first) (itself le o (get_or xs 0 d))
  root xs d h (suc fuel) k few f =
      ⊎_elim
      (λ e. by le _ _ _ _ refl (ap (λ m. get_or xs m d) e) (itself le o (get_or xs 0 d)))
      (λ u.
      let p = (k - 1) / 2 in
      o.trans _ _ _ (root xs d h fuel p (omega arith) (omega arith))
      (heaped_from_sound le xs (length xs) refl h p k d (omega arith) (omega arith) (omega arith) f))
      (cases_eq k 0)

  pub root_least : (xs : List X) (x : X) → ((d : X) → x ≡ get_or xs 0 d) → Sound le xs → Least le x xs
  root_least xs x first h =
      λ k d f. by le _ _ _ _ (first d) refl (root xs d h k k (omega arith) f)
