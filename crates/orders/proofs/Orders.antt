-- In a total order each element is at most itself.
use Rattle.std.proofs.Common.{◌≡◌, Bool, true, ◌∙◌, ⊎_elim}
use Rattle.std.proofs.lemmas.Bool.{cases_Bool}
use Rattle.orders.specs.Order.{TotalOrder}

module _ {X : Type 0} (le : X → X → Bool) where
  -- either side may be replaced by what it equals
  pub by : (a b x y : X) → a ≡ x → b ≡ y → le x y ≡ true → le a b ≡ true
  by a b x y p q h = (λ k. le (p k) (q k)) ∙ h

  pub itself : TotalOrder le → (x : X) → le x x ≡ true
  itself o x = ⊎_elim (λ e. e) (o.total x x) (cases_Bool (le x x))
