use Rattle.std.proofs.Common.{◌≡◌, ℕ, ◌+◌, ◌-◌, ◌≤◌, true, cond, ◌&&◌, eqb, ltb, All, Contains, List, [], ◌∷◌, length, ap, ⊎_elim, arith}
use Rattle.std.proofs.lemmas.List.Elements.{All-contains, All-contains_itself, All-head, All-tail, All-weaker}
use Rattle.std.proofs.lemmas.List.{length-map}
use Rattle.std.proofs.lemmas.Bool.{cases_eq}
use Rattle.std.proofs.lemmas.Bool.Decides.{nat_tests}
use Rattle.planning.specs.declared.job.Job.{Job}
use Rattle.planning.specs.declared.job.Row.{Row}
use Rattle.planning.specs.Placing.{Sum, Jobs, Frames}
use Rattle.planning.specs.Rows.{Place, is_earlier, Rising, IsGift, row_of, GreedyRows}
use Rattle.planning.specs.Windows.{placed}
use Rattle.planning.proofs.FewGifts.{few_gifts}
use Rattle.planning.proofs.Greedy.{greedy_exists}
use Rattle.planning.proofs.OneTable.{rising_head, rising_tail}
use Rattle.planning.proofs.Sums.{only, sum_at_most, sum_with_more}

-- a table of numbers, with one less at a place
abbrev lowered : Place → (ℕ → ℕ → ℕ) → ℕ → ℕ → ℕ
lowered p w g i = w g i - cond (eqb g p.frame && eqb i p.position) 1 0

module _ (js : Jobs) (fr : Frames) where
  lowered_elsewhere : (w : ℕ → ℕ → ℕ) (p q : Place) → is_earlier js p q ≡ true → lowered p w q.frame q.position ≡ w q.frame q.position
  lowered_elsewhere w p q before =
      let same_end : p.position ≡ q.position → js.end p.position ≡ js.end q.position = ap js.end in grind (arith, nat_tests)

  lowered_frame : (w : ℕ → ℕ → ℕ) (p : Place) → IsGift js fr w p → (g : ℕ) → Sum js.count (lowered p w g) + only p.frame 1 g ≤ Sum js.count (w g)
  lowered_frame w p (_, inside, some) g =
      ⊎_elim {C = Sum js.count (lowered p w g) + only p.frame 1 g ≤ Sum js.count (w g)}
      (λ here.
      let less = sum_with_more js.count p.position 1 (lowered p w g) (w g) inside (λ i _.
      let at_p : i ≡ p.position → w g i ≡ w g p.position = ap (w g) in
      let in_g : w g p.position ≡ w p.frame p.position = ap (λ f. w f p.position) here in
      grind (arith, nat_tests))
      in
      let one : only p.frame 1 g ≤ 1 = grind (arith, nat_tests) in
      omega arith)
      (λ apart.
      let none : only p.frame 1 g ≡ 0 = grind (arith, nat_tests) in
      omega (arith, sum_at_most js.count (lowered p w g) (w g) (λ i _. omega arith)))
      (cases_eq g p.frame)

  -- places that rise are no more than what a table has in all, where it has something at each
  pub places_at_most : (places : List Place) (w : ℕ → ℕ → ℕ) → Rising js places → All (IsGift js fr w) places → length places ≤ Sum fr.count (λ g. Sum js.count (w g))
  places_at_most [] w rising gifts = omega arith
  places_at_most (p ∷ ps) w rising gifts =
      let first = All-head (IsGift js fr w) p ps gifts in
      let rest : All (IsGift js fr (lowered p w)) ps =
      All-weaker (Contains ps) (IsGift js fr (lowered p w)) (λ q has.
      let gift = All-contains (IsGift js fr w) ps q (All-tail (IsGift js fr w) p ps gifts) has in
      (gift.0, gift.1, omega (arith, gift.2, lowered_elsewhere w p q (rising_head js p ps q rising has)))) ps (All-contains_itself ps)
      in
      omega (
        arith,
        places_at_most ps (lowered p w) (rising_tail js p ps rising) rest,
        sum_with_more fr.count p.frame 1 (λ g. Sum js.count (lowered p w g)) (λ g. Sum js.count (w g)) first.0 (λ g _. lowered_frame w p first g),
      )

-- the rows are no more than the jobs and the frames
pub rows_are_few : (jobs : List Job) (fr : Frames) (rows : List Row) → GreedyRows jobs fr rows → length rows ≤ length jobs + fr.count
rows_are_few jobs fr rows greedy =
    let js : Jobs = placed jobs in
    let table = greedy_exists js fr in
    let G = table.0 in
    let r = greedy G table.1 in
    let one : ℕ → ℕ → ℕ = λ g i. cond (ltb 0 (G g i)) 1 0 in
    let marked : All (IsGift js fr one) r.places = All-weaker (IsGift js fr G) (IsGift js fr one) (λ p gift. (gift.0, gift.1, grind (arith, nat_tests))) r.places r.gifts in
    omega (
      arith,
      ap (length {A = Row}) r.written,
      length-map r.places (row_of jobs G),
      places_at_most js fr r.places one r.rising marked,
      few_gifts js fr G table.1,
    )
