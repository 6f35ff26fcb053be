-- One element may stand before its parent, and rises until it does not.
use Rattle.std.proofs.Common.{◌≡◌, ℕ, ◌+◌, ◌*◌, ◌<◌, ◌≤◌, Bool, true, false, List, length, get_or, take, sym, ap, ◌∙◌, ⊎_elim, arith}
use Rattle.std.proofs.lemmas.List.{get_or-take, length-take}
use Rattle.std.proofs.lemmas.Bool.{cases_eq}
use Rattle.orders.specs.Order.{TotalOrder, Sound}
use Rattle.orders.proofs.Orders.{by}
use Rattle.orders.proofs.Parents.{heaped_from_sound}

-- Every child but the one at j is right with its parent, and j's parent is right with j's children.
pub record Rising {X : Type 0} (le : X → X → Bool) (xs : List X) (j n : ℕ) : Type 0 where
  pub edges : (p k : ℕ) (d : X) → p * 2 + 1 ≤ k → k ≤ p * 2 + 2 → k < n → (k ≡ j → ⊥) → le (get_or xs p d) (get_or xs k d) ≡ true
  pub over : (p k : ℕ) (d : X) → p * 2 + 1 ≤ j → j ≤ p * 2 + 2 → j * 2 + 1 ≤ k → k ≤ j * 2 + 2 → k < n → le (get_or xs p d) (get_or xs k d) ≡ true

module _ {X : Type 0} (le : X → X → Bool) where
  -- the last element is the one that may rise
  pub rise_begins : (xs : List X) (j n : ℕ) → length xs ≡ n → n ≡ j + 1 → Sound le (take j xs) → Rising le xs j n
  rise_begins xs j n long last h = record {
    edges = λ p k d from to f u.
        let front : length (take j xs) ≡ j = simp length-take (omega arith) in
        by le _ _ _ _ (sym (get_or-take j xs p d (omega arith))) (sym (get_or-take j xs k d (omega arith)))
        (heaped_from_sound le (take j xs) j front h p k d (omega arith) from to (omega arith));
    over = λ p k d from to from' to' f. absurd (omega arith);
  }

  module _ (o : TotalOrder le) (xs ys : List X) (p j n : ℕ) (from : p * 2 + 1 ≤ j) (to : j ≤ p * 2 + 2) (inside : j < n) (at_p : (d : X) → get_or ys p d ≡ get_or xs j d) (at_j : (d : X) → get_or ys j d ≡ get_or xs p d) (other : (k : ℕ) (d : X) → (k ≡ p → ⊥) → (k ≡ j → ⊥) → get_or ys k d ≡ get_or xs k d) where
    -- a swap with its parent takes it one level up
    pub rise_steps : ((d : X) → le (get_or xs p d) (get_or xs j d) ≡ false) → Rising le xs j n → Rising le ys p n
    rise_steps wrong h =
        let right : (d : X) → le (get_or xs j d) (get_or xs p d) ≡ true = λ d. o.total _ _ (wrong d) in
        record {
          edges = λ q k d a b f u. ⊎_elim
              (λ e. let same : q ≡ p = omega arith in by le _ _ _ _ (ap (λ m. get_or ys m d) same ∙ at_p d) (ap (λ m. get_or ys m d) e ∙ at_j d) (right d))
              (λ v. ⊎_elim
              (λ e. by le _ _ _ _ (ap (λ m. get_or ys m d) e ∙ at_p d) (other k d u v) (o.trans _ _ _ (right d) (h.edges p k d (omega arith) (omega arith) f v)))
              (λ w. ⊎_elim
              (λ e. by le _ _ _ _ (ap (λ m. get_or ys m d) e ∙ at_j d) (other k d u v) (h.over p k d from to (omega arith) (omega arith) f))
              (λ z. by le _ _ _ _ (other q d w z) (other k d u v) (h.edges q k d a b f v))
              (cases_eq q j))
              (cases_eq q p))
              (cases_eq k j);
          over = λ q k d a b a' b' f.
              let above = h.edges q p d a b (omega arith) (omega arith) in
              ⊎_elim
              (λ e. by le _ _ _ _ (other q d (omega arith) (omega arith)) (ap (λ m. get_or ys m d) e ∙ at_j d) above)
              (λ v. by le _ _ _ _ (other q d (omega arith) (omega arith)) (other k d (omega arith) v) (o.trans _ _ _ above (h.edges p k d a' b' f v)))
              (cases_eq k j);
        }
