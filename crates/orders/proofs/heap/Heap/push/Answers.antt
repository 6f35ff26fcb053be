use Rattle.std.proofs.Common.{◌≡◌, ◌+◌, ◌-◌, ◌<◌, ℕ, Bool, List, [], ◌∷◌, ◌++◌, length, take, set, sym, ap, ◌∙◌, subst, arith}
use Rattle.std.specs.List.Sorted.{IsPermutation}
use Rattle.std.proofs.lemmas.Grind.{common_steps, take-set_at}
use Rattle.std.proofs.lemmas.List.{length-set, length-take, take_at}
use Rattle.std.proofs.lemmas.List.Sorted.{length_permutation, IsPermutation-sym, IsPermutation-to_front, IsPermutation-trans}
use Rattle.orders.specs.Order.{Sound}
use Rattle.orders.proofs.heap.Heap.push.Goals as goal

module _ {X : Type 0} (xs ys rest : List X) (x : X) (len m : ℕ) (is : m ≡ len + 1) (space : len < length xs) (arranged : IsPermutation (take m (set xs len x)) ys) where
  filled : take m (set xs len x) ≡ take len xs ++ x ∷ []
  filled = take-set_at xs len m x is space

  front : take (len + 1) (ys ++ rest) ≡ ys
  front = take_at ys rest (len + 1) (length_permutation _ _ arranged ∙ simp (length-take, length-set) (omega arith))

  -- What was held, with x behind it, is what is held now.
  stored : IsPermutation (x ∷ take len xs) (take (len + 1) (ys ++ rest))
  stored =
      rw front
      (IsPermutation-trans _ _ _ (IsPermutation-sym _ _ (IsPermutation-to_front (take len xs) x)) (rw filled at arranged))

  -- Where x rises among what was in heap order, all is.
  risen : (le : X → X → Bool) → (Sound le (take (length (take m (set xs len x)) - 1) (take m (set xs len x))) → Sound le ys) → Sound le (take len xs) → Sound le (take (len + 1) (ys ++ rest))
  risen le rises sound =
      let count : length (take m (set xs len x)) - 1 ≡ len = simp (length-take, length-set) (omega arith) in
      let held : length (take len xs) ≡ len = simp length-take (omega arith) in
      let before : take (length (take m (set xs len x)) - 1) (take m (set xs len x)) ≡ take len xs =
      ap (λ k. take k (take m (set xs len x))) count ∙ ap (take len) filled ∙ take_at (take len xs) (x ∷ []) len held in
      rw front (rises (subst (Sound le) (sym before) sound))

pub returns-clause-held : goal.returns-clause-held
returns-clause-held g c = stored c.args.self.now.slots.now c.sift_up.new.s _ c.args.x c.args.self.now.len _ (omega arith) c.if-self-at.false c.sift_up.ensures.shuffled

pub invariant_of-self-2 : goal.invariant_of-self-2
invariant_of-self-2 g c = grind (arith, common_steps)

pub returns-clause-sound : goal.returns-clause-sound
returns-clause-sound g c =
    risen c.args.self.now.slots.now c.sift_up.new.s _ c.args.x c.args.self.now.len _ (omega arith) c.if-self-at.false c.sift_up.ensures.shuffled
    g.T.Ranked.le c.sift_up.ensures.sound
