use Rattle.std.proofs.Common.{◌≡◌, ℕ, zero, suc, ◌+◌, ◌-◌, ◌<◌, ◌≤◌, Bool, true, false, cond, ◌⊎◌, sym, refl, ap, ◌∙◌, subst, ⊎_elim, arith}
use Rattle.std.proofs.lemmas.Bool.{both_ways, cases_Bool, cases_eq, cases_lt, cond-true}
use Rattle.planning.specs.Placing.{Sum, Jobs, Frames, Gifts, is_open, is_before, given, ahead, IsGreedy}
use Rattle.planning.specs.Theorems.{ServesInOrder}
use Rattle.planning.specs.Serving.{Serving, ServesFirst, Served}
use Rattle.planning.proofs.Sums.{sum_at_most, sum_same, sum_of_both, sum_of_only, sum_of_zeros, only, only_elsewhere, only_here}
use Rattle.planning.proofs.Greedy.{loop_facts_are_greedy}

module _ (js : Jobs) (fr : Frames) (g : ℕ) (lack : ℕ → ℕ) where
  -- A frame begins with nothing given, and with all those waiting that it is open to and that lack something.
  pub frame_begins : (row : ℕ → ℕ) (waits : ℕ → Bool) → ((i : ℕ) → i < js.count → row i ≡ 0)
      → ((i : ℕ) → i < js.count → waits i ≡ true → is_open js fr g i ≡ true)
      → ((i : ℕ) → i < js.count → is_open js fr g i ≡ true → waits i ≡ false → lack i ≡ 0)
      → Serving js fr g lack row fr.size waits
  frame_begins row waits none able idle =
      record {
        total = omega (arith, sum_same js.count row (λ _. 0) none, sum_of_zeros js.count);
        within = λ i l some. absurd (omega (arith, none i l));
        most = λ i l. omega (arith, none i l);
        able = able;
        behind = λ i l _. (none i l, λ k m some. absurd (omega (arith, none k m)));
        done = λ i l yes_open waits_not lacks. absurd (omega (arith, idle i l yes_open waits_not));
      }

  module _ (row : ℕ → ℕ) (left : ℕ) (waits : ℕ → Bool) (s : Serving js fr g lack row left waits) where
    -- all that has been given was given before a job that waits
    all_ahead : (i : ℕ) → i < js.count → waits i ≡ true → ahead js row i ≡ Sum js.count row
    all_ahead i l waiting =
        sum_same js.count (λ k. cond (is_before js k i) (row k) 0) row (λ k m.
        ⊎_elim {C = cond (is_before js k i) (row k) 0 ≡ row k}
        (λ some. cond-true (is_before js k i) (row k) 0 ((s.behind i l waiting).1 k m some))
        (λ (none : row k ≤ 0). cond_of_none (is_before js k i) (row k) (omega arith))
        (cases_lt 0 (row k)))
      where
        cond_of_none : (t : Bool) (x : ℕ) → x ≡ 0 → cond t x 0 ≡ x
        cond_of_none true x e = refl
        cond_of_none false x e = sym e

    -- A step serves the first job that waits.
    pub frame_goes_on : (next : ℕ → ℕ) (remains : ℕ) (stay : ℕ → Bool) (i : ℕ)
        → ServesFirst js lack row next left remains waits stay i → Serving js fr g lack next remains stay
    frame_goes_on next remains stay i c =
        let l : i < js.count = c.first.inside in
        let start : row i ≡ 0 = (s.behind i l c.first.waiting).0 in
        let is : (k : ℕ) → k < js.count → next k ≡ row k + only i (next i) k = λ k m.
        ⊎_elim {C = next k ≡ row k + only i (next i) k}
        (λ e. subst (λ x. next x ≡ row x + only i (next i) x) (sym e) (omega (arith, only_here i (next i))))
        (λ apart. omega (arith, c.others k m apart, only_elsewhere i (next i) k apart))
        (cases_eq k i)
        in
        let grows : (k : ℕ) → ahead js row k ≤ ahead js next k = λ k.
        sum_at_most js.count (λ j. cond (is_before js j k) (row j) 0) (λ j. cond (is_before js j k) (next j) 0)
        (λ j m. cond_grows (is_before js j k) (row j) (next j) (omega (arith, is j m)))
        in
        record {
          total =
              omega (
                arith,
                s.total,
                c.gift,
                c.spent,
                sum_same js.count next (λ k. row k + only i (next i) k) is,
                sum_of_both js.count row (only i (next i)),
                sum_of_only js.count i (next i) l,
              );
          within = λ k m some.
              ⊎_elim {C = is_open js fr g k ≡ true}
              (λ e. subst (λ x. is_open js fr g x ≡ true) (sym e) (s.able i l c.first.waiting))
              (λ apart. s.within k m (subst (λ x. 0 < x) (c.others k m apart) some))
              (cases_eq k i);
          most = λ k m.
              ⊎_elim {C = next k ≤ lack k}
              (λ e. subst (λ x. next x ≤ lack x) (sym e) (omega (arith, c.gift)))
              (λ apart. omega (arith, c.others k m apart, s.most k m))
              (cases_eq k i);
          able = λ k m waiting. s.able k m (was_waiting c k m waiting).1;
          behind = λ k m waiting.
              let was = was_waiting c k m waiting in
              let old = s.behind k m was.1 in (
                c.others k m was.0 ∙ old.0,
                λ j n some.
                    ⊎_elim {C = is_before js j k ≡ true}
                    (λ e. subst (λ x. is_before js x k ≡ true) (sym e) (c.first.first k m was.1 was.0))
                    (λ apart. old.1 j n (subst (λ x. 0 < x) (c.others j n apart) some))
                    (cases_eq j i),
              );
          done = λ k m yes_open waits_not lacks.
              ⊎_elim {C = fr.size ≤ ahead js next k + next k}
              (λ e.
              let lacks_i : next i < lack i = subst (λ x. next x < lack x) e lacks in
              let used : fr.size ≤ ahead js next i + next i = omega (arith, c.gift, s.total, all_ahead i l c.first.waiting, grows i) in
              subst (λ x. fr.size ≤ ahead js next x + next x) (sym e) used)
              (λ apart. omega (arith, c.others k m apart, grows k, s.done k m yes_open (sym (c.rest k m apart) ∙ waits_not) (subst (λ x. x < lack k) (c.others k m apart) lacks)))
              (cases_eq k i);
        }
      where
        cond_grows : (t : Bool) (x y : ℕ) → x ≤ y → cond t x 0 ≤ cond t y 0
        cond_grows true x y h = h
        cond_grows false x y h = omega arith

        was_waiting : ServesFirst js lack row next left remains waits stay i → (k : ℕ) → k < js.count → stay k ≡ true → (k ≡ i → ⊥) × (waits k ≡ true)
        was_waiting c k m waiting =
            let apart : k ≡ i → ⊥ = λ e. both_ways (stay k) (subst (λ x. stay x ≡ false) (sym e) c.leaves) waiting in
            (apart, sym (c.rest k m apart) ∙ waiting)

    -- A frame ends when it is used up or nobody waits.
    pub frame_ends_lem : (left ≡ 0) ⊎ ((i : ℕ) → i < js.count → waits i ≡ false) → Served js fr g lack row
    frame_ends_lem over =
        record {
          within = s.within;
          most = s.most;
          fits = omega (arith, s.total);
          eager = λ i l yes_open lacks.
              ⊎_elim {C = fr.size ≤ ahead js row i + row i}
              (λ waiting.
              ⊎_elim {C = fr.size ≤ ahead js row i + row i}
              (λ (used : left ≡ 0). omega (arith, s.total, all_ahead i l waiting))
              (λ idle. absurd (both_ways (waits i) (idle i l) waiting))
              over)
              (λ waits_not. s.done i l yes_open waits_not lacks)
              (cases_Bool (waits i));
        }

module _ (js : Jobs) (fr : Frames) (g : ℕ) (lack lack' row row' : ℕ → ℕ) where
  -- Only what is lacked by and given to the jobs that there are matters.
  pub served_alike : ((i : ℕ) → i < js.count → lack i ≡ lack' i) → ((i : ℕ) → i < js.count → row i ≡ row' i)
      → Served js fr g lack row → Served js fr g lack' row'
  served_alike lacks rows s =
      let before : (i : ℕ) → ahead js row i ≡ ahead js row' i = λ i.
      sum_same js.count (λ k. cond (is_before js k i) (row k) 0) (λ k. cond (is_before js k i) (row' k) 0) (λ k l. ap (λ x. cond (is_before js k i) x 0) (rows k l))
      in
      record {
        within = λ i l some. s.within i l (omega (arith, rows i l));
        most = λ i l. omega (arith, s.most i l, rows i l, lacks i l);
        fits = omega (arith, s.fits, sum_same js.count row row' rows);
        eager = λ i l yes_open short. omega (arith, s.eager i l yes_open (omega (arith, rows i l, lacks i l)), rows i l, before i);
      }

-- A frame stays served when gifts of later frames change.
pub served_stays : (js : Jobs) (fr : Frames) (G K : Gifts) (g : ℕ) → ((h i : ℕ) → h ≤ g → i < js.count → G h i ≡ K h i)
    → Served js fr g (λ i. js.cost i - given G i g) (G g) → Served js fr g (λ i. js.cost i - given K i g) (K g)
served_stays js fr G K g same =
    served_alike js fr g (λ i. js.cost i - given G i g) (λ i. js.cost i - given K i g) (G g) (K g)
    (λ i l. ap (λ x. js.cost i - x) (sum_same g (λ h. G h i) (λ h. K h i) (λ h below. same h i (omega arith) l)))
    (λ i l. same g i (omega arith) l)

module _ (js : Jobs) (fr : Frames) (G : Gifts) where
  -- Frames that were all served make a table that serves in order, and so the greedy one.
  pub served_frames_serve_in_order : ((g : ℕ) → g < fr.count → Served js fr g (λ i. js.cost i - given G i g) (G g)) → ServesInOrder js fr G
  served_frames_serve_in_order served =
      record {
        within = λ g i b l some. (served g b).within i l some;
        most = most served;
        fits = λ g b. (served g b).fits;
        eager = λ g i b l yes_open lacks. (served g b).eager i l yes_open (omega arith);
      }
    where
      most : ((g : ℕ) → g < fr.count → Served js fr g (λ i. js.cost i - given G i g) (G g)) → (i : ℕ) → i < js.count → (t : ℕ) → t ≤ fr.count → given G i t ≤ js.cost i
      most served i l zero b = omega arith
      most served i l (suc t) b = omega (arith, most served i l t (omega arith), (served t b).most i l)

  pub served_frames_are_greedy : ((g : ℕ) → g < fr.count → Served js fr g (λ i. js.cost i - given G i g) (G g)) → IsGreedy js fr G
  served_frames_are_greedy served = (loop_facts_are_greedy js fr G).0 (served_frames_serve_in_order served)
