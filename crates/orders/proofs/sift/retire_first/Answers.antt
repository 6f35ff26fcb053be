use Rattle.std.proofs.Common.{◌≡◌, ◌+◌, ℕ, Bool, List, [], ◌∷◌, ◌++◌, length, take, drop, get_or, refl, ◌∙◌, arith}
use Rattle.std.specs.List.Sorted.{IsPermutation}
use Rattle.std.proofs.lemmas.Grind.{common_steps}
use Rattle.std.proofs.lemmas.List.{get_or-take, length-take, take_at, take-append-drop}
use Rattle.std.proofs.lemmas.List.Sorted.{length_permutation, IsPermutation-append_left, IsPermutation-to_front, IsPermutation-trans}
use Rattle.orders.specs.Order.{Sound}
use Rattle.orders.specs.Sifting.{Heaped}
use Rattle.orders.proofs.Orders.{by}
use Rattle.orders.proofs.Parents.{heaped_from_sound, sound_from_heaped}
use Rattle.orders.proofs.Root.{root_least}
use Rattle.orders.proofs.sift.retire_first.Goals as goal

-- The part before the last is arranged anew, and the last is named first.
shuffled : {X : Type 0} (xs ws ys : List X) (m n : ℕ) (r : X) → m ≡ n → length ws ≡ n + 1 → r ≡ get_or (ys ++ drop m ws) n r → IsPermutation xs ws → IsPermutation (take m ws) ys → IsPermutation xs (r ∷ take n (ys ++ drop m ws))
shuffled xs ws ys m n r is long read first arranged =
    let other : IsPermutation ws (ys ++ drop m ws) = rw take-append-drop at (IsPermutation-append_left (drop m ws) (take m ws) ys arranged) in
    let parts : ys ++ drop m ws ≡ take n (ys ++ drop m ws) ++ r ∷ [] = let kept = length_permutation _ _ other in grind (arith, common_steps) in
    IsPermutation-trans _ _ _ first (IsPermutation-trans _ _ _ (rw parts at other) (IsPermutation-to_front (take n (ys ++ drop m ws)) r))

-- First and last are swapped, and the part before the last is in heap order again.
sound : {X : Type 0} (le : X → X → Bool) (xs ws ys rest : List X) (m n : ℕ) → m ≡ n → length xs ≡ n + 1 → length ws ≡ n + 1 → IsPermutation (take m ws) ys → ((k : ℕ) (d : X) → (k ≡ 0 → ⊥) → (k ≡ n → ⊥) → get_or ws k d ≡ get_or xs k d) → (Heaped le (take m ws) 1 (length (take m ws)) → Heaped le ys 0 (length (take m ws))) → Sound le xs → Sound le (take n (ys ++ rest))
sound le xs ws ys rest m n is long swapped arranged other sunk h =
    let short : length (take m ws) ≡ n = simp length-take (omega arith) in
    let kept = length_permutation _ _ arranged in
    let before : Heaped le (take m ws) 1 (length (take m ws)) =
    λ p k d low from to f. by le _ _ _ _
    (get_or-take m ws p d (omega arith) ∙ other p d (omega arith) (omega arith))
    (get_or-take m ws k d (omega arith) ∙ other k d (omega arith) (omega arith))
    (heaped_from_sound le xs (length xs) refl h p k d (omega arith) from to (omega arith)) in
    rw (take_at ys rest n (omega arith)) (sound_from_heaped le ys (length (take m ws)) (omega arith) (sunk before))

pub returns-clause-least : goal.returns-clause-least
returns-clause-least g c =
    root_least g.T.Ranked.le g.met.T.Ranked.total c.args.s.now c.index-s-last.result (λ d. grind (arith, common_steps, c.index-s-last.is, c.swap.ensures.by_index.1 d))

pub returns-clause-shuffled : goal.returns-clause-shuffled
returns-clause-shuffled g c =
    shuffled c.args.s.now c.swap.new.self c.sift_down.new.s _ _ c.index-s-last.result (omega arith) (omega arith) c.index-s-last.is c.swap.ensures.permutation c.sift_down.ensures.shuffled

pub returns-clause-sound : goal.returns-clause-sound
returns-clause-sound g c =
    sound g.T.Ranked.le c.args.s.now c.swap.new.self c.sift_down.new.s _ _ _ (omega arith) (omega arith) (omega arith) c.sift_down.ensures.shuffled c.swap.ensures.by_index.2 c.sift_down.ensures.heaped
