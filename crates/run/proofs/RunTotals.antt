use Rattle.std.proofs.Common.{◌≡◌, ℕ, zero, suc, ◌<◌, ◌≤◌, true, cond, ◌&&◌, eqb, List, [], ◌∷◌, map, length, get_or, sum_by, sym, refl, ap, ◌∙◌, subst, ⊎_elim, arith}
use Rattle.std.proofs.lemmas.List.Sums.{sum_by-cons, sum_by_push}
use Rattle.std.proofs.lemmas.Bool.{cases_eq, cases_lt}
use Rattle.std.proofs.lemmas.Bool.Decides.{nat_tests}
use Rattle.std.specs.List.{Contains}
use Rattle.planning.specs.declared.job.Job.{Job}
use Rattle.planning.specs.declared.job.Row.{Row}
use Rattle.planning.specs.Placing.{Frames, Gifts, Jobs, Sum}
use Rattle.planning.specs.Rows.{IsGift, Place, Rising, RowsOf, is_earlier, row_of}
use Rattle.planning.specs.Windows.{job_at, placed}
use Rattle.planning.proofs.OneTable.{rising_tail}
use Rattle.planning.proofs.Sums.{only, only_elsewhere, only_here, sum_of_only, sum_same, sum_unchanged}
use Rattle.run.specs.declared.event.Event.TheVariants.{FrameEnd}
use Rattle.run.specs.Events.{frame_events, repetition_events, rows_in, run_events, slice_for, slice_of, total}
use Rattle.run.proofs.ListSums.{sum_of_joined, sum_of_kept, sum_of_mapped, sum_of_none, sum_of_same}

-- x at one place alone
abbrev mark_at : ℕ → ℕ → ℕ → Place → ℕ
mark_at g i x p = cond (eqb p.frame g && eqb p.position i) x 0

mark_here : (g i x : ℕ) (p : Place) → p.frame ≡ g → p.position ≡ i → mark_at g i x p ≡ x
mark_here g i x p frame position = grind (arith, nat_tests)

mark_elsewhere : (g i x : ℕ) (p : Place) → (p.frame ≡ g → p.position ≡ i → ⊥) → mark_at g i x p ≡ 0
mark_elsewhere g i x p apart = grind (arith, nat_tests)

module _ (js : Jobs) where
  -- an earlier place is another
  earlier_is_other : (p q : Place) → is_earlier js p q ≡ true → p.frame ≡ q.frame → p.position ≡ q.position → ⊥
  earlier_is_other p q before frame position =
      let same_end : js.end p.position ≡ js.end q.position = ap js.end position in grind (arith, nat_tests)

  -- a place stands once among places that rise
  stands_once : (places : List Place) (q : Place) (x : ℕ) → Rising js places → Contains places q → sum_by (mark_at q.frame q.position x) places ≡ x
  stands_once [] q x rising (k, inside, is) = absurd (omega (arith, inside))
  stands_once (p ∷ ps) q x rising (zero, _, is) =
      let frame : p.frame ≡ q.frame = ap (λ (y : Place). y.frame) is in
      let position : p.position ≡ q.position = ap (λ (y : Place). y.position) is in
      let none : sum_by (mark_at q.frame q.position x) ps ≡ 0 =
      sum_of_none (mark_at q.frame q.position x) ps (λ k d inside.
      mark_elsewhere q.frame q.position x (get_or ps k d) (λ f n.
      earlier_is_other p (get_or ps k d) (rising 0 (suc k) d (omega arith) (omega arith)) (frame ∙ sym f) (position ∙ sym n)))
      in
      omega (arith, sum_by-cons (mark_at q.frame q.position x) p ps, mark_here q.frame q.position x p frame position)
  stands_once (p ∷ ps) q x rising (suc k, inside, is) =
      let before : is_earlier js p q ≡ true = subst (λ y. is_earlier js p y ≡ true) is (rising 0 (suc k) q (omega arith) inside) in
      omega (
        arith,
        sum_by-cons (mark_at q.frame q.position x) p ps,
        mark_elsewhere q.frame q.position x p (earlier_is_other p q before),
        stands_once ps q x (rising_tail js p ps rising) (k, omega (arith, inside), is),
      )

-- the term of a row, by whether it is the place of a gift to the job
slice_or_none : (r frame g position i task t job j x y : ℕ) → (position ≡ i → task ≡ t) → (position ≡ i → job ≡ j) → (task ≡ t → job ≡ j → position ≡ i) → (frame ≡ g → position ≡ i → x ≡ y) → cond (eqb frame g) (cond ((eqb r r && eqb task t) && eqb job j) x 0) 0 ≡ cond (eqb frame g && eqb position i) y 0
slice_or_none r frame g position i task t job j x y task_is job_is alone gift = grind (arith, nat_tests)

-- a slice of another repetition, task or job counts nothing
pub other_slice : (r s task t job j x : ℕ) → (s ≡ r → task ≡ t → job ≡ j → ⊥) → cond ((eqb s r && eqb task t) && eqb job j) x 0 ≡ 0
other_slice r s task t job j x apart = grind (arith, nat_tests)

-- slices of other repetitions count nothing
other_slices : (r t j s : ℕ) → (s ≡ r → ⊥) → (rows : List Row) → total r t j (map (slice_of s) rows) ≡ 0
other_slices r t j s apart [] = refl
other_slices r t j s apart (row ∷ rows) =
    omega (
      arith,
      sum_by-cons (slice_for r t j) (slice_of s row) (map (slice_of s) rows),
      other_slice r s row.task t row.job j row.length (λ same _ _. apart same),
      other_slices r t j s apart rows,
    )

other_repetition : (rows : List Row) (frames r t j s : ℕ) → (s ≡ r → ⊥) → total r t j (repetition_events rows frames s) ≡ 0
other_repetition rows frames r t j s apart =
    sum_of_joined (slice_for r t j) frames (frame_events rows s)
    ∙ sum_unchanged 0 frames (λ g. total r t j (frame_events rows s g)) (omega arith) (λ g _ _.
    omega (
      arith,
      sum_by_push (slice_for r t j) (map (slice_of s) (rows_in rows g)) (FrameEnd s g),
      other_slices r t j s apart (rows_in rows g),
    ))

module _ (jobs : List Job) (fr : Frames) (G : Gifts) (rows : List Row) (table : RowsOf jobs fr G rows) (i t j : ℕ) (inside : i < length jobs) (task_is : (job_at jobs i).task ≡ t) (job_is : (job_at jobs i).job ≡ j) (alone : (k : ℕ) → k < length jobs → (job_at jobs k).task ≡ t → (job_at jobs k).job ≡ j → k ≡ i) where
  -- the places of a frame give the job what the table does
  gift_of_places : (g : ℕ) → g < fr.count → sum_by (mark_at g i (G g i)) table.places ≡ G g i
  gift_of_places g low =
      ⊎_elim {C = sum_by (mark_at g i (G g i)) table.places ≡ G g i}
      (λ some.
      stands_once (placed jobs) table.places (record { frame = g; position = i }) (G g i) table.rising
      (table.all (record { frame = g; position = i }) (low, inside, some)))
      (λ (none : G g i ≤ 0).
      let zero_gift : G g i ≡ 0 = omega arith in
      sum_of_none (mark_at g i (G g i)) table.places (λ k d _. grind (arith, nat_tests))
      ∙ sym zero_gift)
      (cases_lt 0 (G g i))

  slice_of_place : (r g : ℕ) (p : Place) → IsGift (placed jobs) fr G p → cond (eqb p.frame g) (slice_for r t j (slice_of r (row_of jobs G p))) 0 ≡ mark_at g i (G g i) p
  slice_of_place r g p gift =
      slice_or_none r p.frame g p.position i (job_at jobs p.position).task t (job_at jobs p.position).job j (G p.frame p.position) (G g i)
      (λ same. ap (λ n. (job_at jobs n).task) same ∙ task_is)
      (λ same. ap (λ n. (job_at jobs n).job) same ∙ job_is)
      (alone p.position gift.1)
      (λ frame position. ap (λ f. G f p.position) frame ∙ ap (G g) position)

  -- the slices of a frame total what the frame gives the job
  frame_total : (r g : ℕ) → g < fr.count → total r t j (frame_events rows r g) ≡ G g i
  frame_total r g low =
      let last : total r t j (frame_events rows r g) ≡ sum_by (slice_for r t j) (map (slice_of r) (rows_in rows g)) =
      omega (arith, sum_by_push (slice_for r t j) (map (slice_of r) (rows_in rows g)) (FrameEnd r g))
      in
      last
      ∙ sum_of_mapped (slice_for r t j) (slice_of r) (rows_in rows g)
      ∙ sum_of_kept (λ row. slice_for r t j (slice_of r row)) (λ row. eqb row.frame g) rows
      ∙ ap (sum_by (λ (row : Row). cond (eqb row.frame g) (slice_for r t j (slice_of r row)) 0)) table.written
      ∙ sum_of_mapped (λ (row : Row). cond (eqb row.frame g) (slice_for r t j (slice_of r row)) 0) (row_of jobs G) table.places
      ∙ sum_of_same (λ p. cond (eqb p.frame g) (slice_for r t j (slice_of r (row_of jobs G p))) 0) (mark_at g i (G g i)) table.places
      (λ k d inside. slice_of_place r g (get_or table.places k d) (table.gifts k d inside))
      ∙ gift_of_places g low

  repetition_total : (r : ℕ) → total r t j (repetition_events rows fr.count r) ≡ Sum fr.count (λ g. G g i)
  repetition_total r =
      sum_of_joined (slice_for r t j) fr.count (frame_events rows r)
      ∙ sum_same fr.count (λ g. total r t j (frame_events rows r g)) (λ g. G g i) (λ g low. frame_total r g low)

  -- the slices of a job of a repetition total, over the run, what the table gives the job
  pub run_total : (n r : ℕ) → r < n → total r t j (run_events rows fr.count n) ≡ Sum fr.count (λ g. G g i)
  run_total n r low =
      let x : ℕ = Sum fr.count (λ g. G g i) in
      sum_of_joined (slice_for r t j) n (repetition_events rows fr.count)
      ∙ sum_same n (λ s. total r t j (repetition_events rows fr.count s)) (only r x) (λ s _.
      ⊎_elim {C = total r t j (repetition_events rows fr.count s) ≡ only r x s}
      (λ same. ap (λ a. total r t j (repetition_events rows fr.count a)) same ∙ (repetition_total r ∙ (sym (only_here r x) ∙ ap (only r x) (sym same))))
      (λ apart. other_repetition rows fr.count r t j s apart ∙ sym (only_elsewhere r x s apart))
      (cases_eq s r))
      ∙ sum_of_only n r x low
