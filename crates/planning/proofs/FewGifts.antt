use Rattle.std.proofs.Common.{◌≡◌, ℕ, suc, ◌+◌, ◌<◌, ◌≤◌, Bool, true, cond, ◌&&◌, ltb, leb, ap, ◌∙◌, ⊎_elim, arith}
use Rattle.std.proofs.lemmas.Bool.{and_parts, cases_Bool, leb-true, ltb-true}
use Rattle.std.proofs.lemmas.Bool.Decides.{nat_tests}
use Rattle.planning.specs.Placing.{Sum, Jobs, Frames, Gifts, given, is_before, ahead}
use Rattle.planning.specs.Theorems.{ServesInOrder, FewGifts}
use Rattle.planning.proofs.Sums.{sum_at_most, sum_same, sum_of_both, sum_of_one, sum_of_ones, sum_swapped, sum_grows, sum_with_more}
use Rattle.planning.proofs.Order.{ahead_within_row}
use Rattle.planning.proofs.Greedy.{loop_facts_are_greedy}

module _ (js : Jobs) (fr : Frames) (G : Gifts) (s : ServesInOrder js fr G) where
  -- frame g gives to job i and finishes it, or gives to it and leaves it unfinished
  abbrev finishing : ℕ → ℕ → Bool
  finishing g i = ltb 0 (G g i) && leb (js.cost i) (given G i (suc g))

  abbrev leaving : ℕ → ℕ → Bool
  leaving g i = ltb 0 (G g i) && ltb (given G i (suc g)) (js.cost i)

  gift_finishes_or_leaves : (g i : ℕ) → ◌≡◌ {A = ℕ} (cond (ltb 0 (G g i)) 1 0) (cond (finishing g i) 1 0 + cond (leaving g i) 1 0)
  gift_finishes_or_leaves g i = grind (arith, nat_tests)

  -- a job that is finished is given nothing more
  finished_once : (i : ℕ) → i < js.count → Sum fr.count (λ g. cond (finishing g i) 1 0) ≤ 1
  finished_once i l =
      sum_of_one fr.count (λ g. finishing g i) (λ g h low high first second.
      let done = leb-true (js.cost i) (given G i (suc g)) (and_parts (ltb 0 (G g i)) (leb (js.cost i) (given G i (suc g))) first).1 in
      let some = ltb-true 0 (G h i) (and_parts (ltb 0 (G h i)) (leb (js.cost i) (given G i (suc h))) second).0 in
      omega (arith, done, some, sum_grows (suc g) h (λ t. G t i) low, s.most i l (suc h) high))

  -- a frame that leaves a job unfinished gives nothing to those served after it
  nothing_after : (g i k : ℕ) → g < fr.count → i < js.count → k < js.count → leaving g i ≡ true → leaving g k ≡ true → is_before js i k ≡ true → ⊥
  nothing_after g i k b l m first second before =
      let at_i = and_parts (ltb 0 (G g i)) (ltb (given G i (suc g)) (js.cost i)) first in
      let at_k = and_parts (ltb 0 (G g k)) (ltb (given G k (suc g)) (js.cost k)) second in
      let more : ahead js (G g) i + G g i ≤ ahead js (G g) k =
      sum_with_more js.count i (G g i) (λ j. cond (is_before js j i) (G g j) 0) (λ j. cond (is_before js j k) (G g j) 0) l
      (λ j n. let x : j ≡ i → G g j ≡ G g i = ap (G g) in let y : j ≡ i → js.end j ≡ js.end i = ap js.end in grind (arith, nat_tests))
      in
      omega (
        arith,
        ltb-true 0 (G g k) at_k.0,
        s.eager g i b l (s.within g i b l (ltb-true 0 (G g i) at_i.0)) (ltb-true (given G i (suc g)) (js.cost i) at_i.1),
        ahead_within_row js (G g) k m,
        s.fits g b,
      )

  leaves_one : (g : ℕ) → g < fr.count → Sum js.count (λ i. cond (leaving g i) 1 0) ≤ 1
  leaves_one g b =
      sum_of_one js.count (leaving g) (λ i k low high first second.
      ⊎_elim {C = ⊥}
      (λ before. nothing_after g i k b (omega arith) high first second before)
      (λ after. nothing_after g k i b high (omega arith) second first (grind (arith, nat_tests)))
      (cases_Bool (is_before js i k)))

  gifts_are_few : Sum fr.count (λ g. Sum js.count (λ i. cond (ltb 0 (G g i)) 1 0)) ≤ js.count + fr.count
  gifts_are_few =
      let finished : ℕ → ℕ = λ g. Sum js.count (λ i. cond (finishing g i) 1 0) in
      let left : ℕ → ℕ = λ g. Sum js.count (λ i. cond (leaving g i) 1 0) in
      omega (
        arith,
        sum_same fr.count (λ g. Sum js.count (λ i. cond (ltb 0 (G g i)) 1 0)) (λ g. finished g + left g)
            (λ g _. sum_same js.count (λ i. cond (ltb 0 (G g i)) 1 0) (λ i. cond (finishing g i) 1 0 + cond (leaving g i) 1 0) (λ i _. gift_finishes_or_leaves g i)
            ∙ sum_of_both js.count (λ i. cond (finishing g i) 1 0) (λ i. cond (leaving g i) 1 0)),
        sum_of_both fr.count finished left,
        sum_swapped fr.count js.count (λ g i. cond (finishing g i) 1 0),
        sum_at_most js.count (λ i. Sum fr.count (λ g. cond (finishing g i) 1 0)) (λ _. 1) finished_once,
        sum_at_most fr.count left (λ _. 1) leaves_one,
        sum_of_ones js.count,
        sum_of_ones fr.count,
      )

pub few_gifts : FewGifts
few_gifts js fr G greedy = gifts_are_few js fr G ((loop_facts_are_greedy js fr G).1 greedy)
