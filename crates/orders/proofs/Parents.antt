-- The two ways to say that a list is arranged as a heap agree.
use Rattle.std.proofs.Common.{◌≡◌, ℕ, ◌+◌, ◌-◌, ◌/◌, Bool, List, length, get_or, ap, arith}
use Rattle.orders.specs.Order.{Sound}
use Rattle.orders.specs.Sifting.{Heaped}
use Rattle.orders.proofs.Orders.{by}

module _ {X : Type 0} (le : X → X → Bool) where
  pub sound_from_heaped : (xs : List X) (n : ℕ) → length xs ≡ n → Heaped le xs 0 n → Sound le xs
  sound_from_heaped xs n long h i d f = h (i / 2) (i + 1) d (omega arith) (omega arith) (omega arith) (omega arith)

  pub heaped_from_sound : (xs : List X) (n : ℕ) → length xs ≡ n → Sound le xs → Heaped le xs 0 n
  heaped_from_sound xs n long h p k d low from to f =
      let parent : p ≡ (k - 1) / 2 = omega arith in
      let child : k ≡ k - 1 + 1 = omega arith in
      by le _ _ _ _ (ap (λ m. get_or xs m d) parent) (ap (λ m. get_or xs m d) child) (h (k - 1) d (omega arith))
