-- One element may stand behind a child of its own, and sinks until it does not.
use Rattle.std.proofs.Common.{◌≡◌, ℕ, ◌+◌, ◌*◌, ◌<◌, ◌≤◌, Bool, true, false, List, length, get_or, ap, ◌∙◌, ⊎_elim, arith}
use Rattle.std.proofs.lemmas.Bool.{cases_eq}
use Rattle.orders.specs.Order.{TotalOrder}
use Rattle.orders.specs.Sifting.{FirstChild}
use Rattle.orders.proofs.Orders.{by}

-- Every parent from `low` on but the one at j is right with its children, and j's parent is right
-- with j's children.
pub record Sinking {X : Type 0} (le : X → X → Bool) (xs : List X) (low j n : ℕ) : Type 0 where
  pub edges : (p k : ℕ) (d : X) → low ≤ p → p * 2 + 1 ≤ k → k ≤ p * 2 + 2 → k < n → (p ≡ j → ⊥) → le (get_or xs p d) (get_or xs k d) ≡ true
  pub over : (p k : ℕ) (d : X) → low ≤ p → p * 2 + 1 ≤ j → j ≤ p * 2 + 2 → j * 2 + 1 ≤ k → k ≤ j * 2 + 2 → k < n → le (get_or xs p d) (get_or xs k d) ≡ true

module _ {X : Type 0} (le : X → X → Bool) where
  module _ (o : TotalOrder le) (xs : List X) (low j c n : ℕ) (long : length xs ≡ n) (child : FirstChild le xs j c) where
    module _ (ys : List X) (reached : low ≤ j) (at_j : (d : X) → get_or ys j d ≡ get_or xs c d) (at_c : (d : X) → get_or ys c d ≡ get_or xs j d) (other : (k : ℕ) (d : X) → (k ≡ j → ⊥) → (k ≡ c → ⊥) → get_or ys k d ≡ get_or xs k d) where
      -- a swap with its first child takes it one level down
      pub sink_steps : ((d : X) → le (get_or xs j d) (get_or xs c d) ≡ false) → Sinking le xs low j n → Sinking le ys low c n
      sink_steps wrong h = record {
        edges = λ p k d l a b f u. ⊎_elim
            (λ e. ⊎_elim
            (λ e'. by le _ _ _ _ (ap (λ m. get_or ys m d) e ∙ at_j d) (ap (λ m. get_or ys m d) e' ∙ at_c d) (o.total _ _ (wrong d)))
            (λ v. by le _ _ _ _ (ap (λ m. get_or ys m d) e ∙ at_j d) (other k d (omega arith) v) (child.first k d (omega arith) (omega arith) (omega arith)))
            (cases_eq k c))
            (λ w. ⊎_elim
            (λ e. by le _ _ _ _ (other p d w u) (ap (λ m. get_or ys m d) e ∙ at_j d) (h.over p c d l (omega arith) (omega arith) child.from child.to (omega arith)))
            (λ z. by le _ _ _ _ (other p d w u) (other k d z (omega arith)) (h.edges p k d l a b f w))
            (cases_eq k j))
            (cases_eq p j);
        over = λ p k d l a b a' b' f.
            let same : p ≡ j = omega arith in
            by le _ _ _ _ (ap (λ m. get_or ys m d) same ∙ at_j d) (other k d (omega arith) (omega arith)) (h.edges c k d (omega arith) a' b' f (omega arith));
      }
