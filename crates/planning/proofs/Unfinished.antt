use Rattle.std.proofs.Common.{◌≡◌, ℕ, zero, suc, ◌+◌, ◌*◌, ◌<◌, ◌≤◌, Bool, true, false, cond, leb, sym, refl, ap, ◌∙◌, subst, ⊎_elim, mul-le-mul_right, arith}
use Rattle.std.proofs.lemmas.Bool.{both_ways, cases_Bool, cases_eq, cases_lt, cond-false, cond-true, leb-true, leb-false, lt-leb, le-leb, and_parts, and_from}
use Rattle.std.proofs.lemmas.Bool.Decides.{nat_tests}
use Rattle.planning.specs.Placing.{Sum, Jobs, Frames, Gifts, is_open, is_before, given, ahead, is_confined, Overloaded}
use Rattle.planning.specs.Theorems.{ServesInOrder, GreedyUnfinishedOverloads}
use Rattle.planning.proofs.Sums.{sum_of_both, sum_of_zeros, sum_same, sum_with_more, sum_unchanged, sum_grows, rows_at_least, only, only_elsewhere, only_here}
use Rattle.planning.proofs.Greedy.{loop_facts_are_greedy}
use Rattle.planning.proofs.Runs.{Confined, confined_decides}

-- the frames that end by the tick e are those before some b
frames_by : (n size e : ℕ) → (b : ℕ) × (b ≤ n) × ((g : ℕ) → g < b → (g + 1) * size ≤ e) × ((g : ℕ) → g < n → (g + 1) * size ≤ e → g < b)
frames_by zero size e = (0, omega arith, λ g h. absurd (omega arith), λ g h _. omega arith)
frames_by (suc n) size e =
    ⊎_elim {C = (b : ℕ) × (b ≤ suc n) × ((g : ℕ) → g < b → (g + 1) * size ≤ e) × ((g : ℕ) → g < suc n → (g + 1) * size ≤ e → g < b)}
    (λ late.
    let rest = frames_by n size e in (
      rest.0,
      omega (arith, rest.1),
      rest.2,
      λ g h by_e.
          ⊎_elim {C = g < rest.0}
          (λ low. rest.3 g low by_e)
          (λ high. absurd (omega (arith, mul-le-mul_right {m = n + 1} {n = g + 1} size (omega arith))))
          (cases_lt g n),
    ))
    (λ in_time. (suc n, omega arith, λ g h. omega (arith, mul-le-mul_right {m = g + 1} {n = n + 1} size (omega arith)), λ g h _. h))
    (cases_lt e ((n + 1) * size))

-- back from b as far as the test holds
back : (test : ℕ → Bool) (b : ℕ) → (a : ℕ) × (a ≤ b) × ((g : ℕ) → a ≤ g → g < b → test g ≡ true) × ((h : ℕ) → a ≡ suc h → test h ≡ false)
back test zero = (0, omega arith, λ g low high. absurd (omega arith), λ h e. absurd (omega arith))
back test (suc b) =
    ⊎_elim {C = (a : ℕ) × (a ≤ suc b) × ((g : ℕ) → a ≤ g → g < suc b → test g ≡ true) × ((h : ℕ) → a ≡ suc h → test h ≡ false)}
    (λ holds.
    let rest = back test b in (
      rest.0,
      omega (arith, rest.1),
      λ g low high.
          ⊎_elim {C = test g ≡ true} (λ under. rest.2 g low under) (λ top. subst (λ x. test x ≡ true) (let z : b ≡ g = omega arith in z) holds) (cases_lt g b),
      rest.3,
    ))
    (λ fails. (suc b, omega arith, λ g low high. absurd (omega arith), λ h e. subst (λ x. test x ≡ false) (let z : b ≡ h = omega arith in z) fails))
    (cases_Bool (test b))

-- A job J that a table served in order leaves unfinished.
module _ (js : Jobs) (fr : Frames) (G : Gifts) (s : ServesInOrder js fr G) (J : ℕ) (j_is : J < js.count) (short : given G J fr.count < js.cost J) where
  -- what a frame gives to the job, where that ends no later than J
  abbrev urgent_gift : ℕ → ℕ → ℕ
  urgent_gift g k = cond (leb (js.end k) (js.end J)) (G g k) 0

  -- a frame that leaves unfinished such a job, to which it is open, is used up by such jobs
  used_up : (g k : ℕ) → g < fr.count → k < js.count → js.end k ≤ js.end J → is_open js fr g k ≡ true → given G k (suc g) < js.cost k → fr.size ≤ Sum js.count (urgent_gift g)
  used_up g k b l early yes_open lacks =
      let more : ahead js (λ i. G g i) k + G g k ≤ Sum js.count (urgent_gift g) =
      sum_with_more js.count k (G g k) (λ i. cond (is_before js i k) (G g i) 0) (urgent_gift g) l
      (λ i m. let q : i ≡ k → G g i ≡ G g k = ap (G g) in let r : i ≡ k → js.end i ≡ js.end k = ap js.end in grind (arith, nat_tests))
      in
      omega (arith, s.eager g k b l yes_open lacks)

  -- The run from a up to b: it ends with the frames that end by J's end, and the frame before it, if any,
  -- is not used up by jobs that end no later than J.
  module _ (a b : ℕ) (forward : a ≤ b) (inside : b ≤ fr.count) (ends : (g : ℕ) → g < b → (g + 1) * fr.size ≤ js.end J)
      (reaches : (g : ℕ) → g < fr.count → (g + 1) * fr.size ≤ js.end J → g < b)
      (full : (g : ℕ) → a ≤ g → g < b → fr.size ≤ Sum js.count (urgent_gift g))
      (slack : (h : ℕ) → a ≡ suc h → Sum js.count (urgent_gift h) < fr.size) where
    -- a job that ends no later than J, lacks something at a, and could have used the frame before a, is
    -- confined to the run
    confines : (k : ℕ) → k < js.count → js.end k ≤ js.end J → given G k a < js.cost k → a * fr.size ≤ js.end k → Confined js fr a b k
    confines k l early lacks late g below yes_open =
        let parts = and_parts (leb (js.release k) (g * fr.size)) (leb ((g + 1) * fr.size) (js.end k)) yes_open in
        let released : js.release k ≤ g * fr.size = leb-true (js.release k) (g * fr.size) parts.0 in
        let ended : (g + 1) * fr.size ≤ js.end k = leb-true ((g + 1) * fr.size) (js.end k) parts.1 in
        (⊎_elim {C = a ≤ g} (λ before. absurd (not_before a refl g released before)) (λ low. low) (cases_lt g a), reaches g below (omega arith))
      where
        not_before : (c : ℕ) → a ≡ c → (g : ℕ) → js.release k ≤ g * fr.size → g < c → ⊥
        not_before zero is g released before = omega arith
        not_before (suc h) is g released before =
            let yes_open : is_open js fr h k ≡ true =
            and_from (leb (js.release k) (h * fr.size)) (leb ((h + 1) * fr.size) (js.end k))
            (le-leb (js.release k) (h * fr.size) (omega (arith, mul-le-mul_right {m = g} {n = h} fr.size (omega arith))))
            (le-leb ((h + 1) * fr.size) (js.end k) (omega (arith, ap (λ x. x * fr.size) is)))
            in
            omega (arith, slack h is, used_up h k (omega arith) l early yes_open (subst (λ x. given G k x < js.cost k) is lacks))

    j_confined : is_confined js fr a b J ≡ true
    j_confined =
        (confined_decides js fr a b J).1
        (confines J j_is (omega arith) (omega (arith, sum_grows a fr.count (λ g. G g J) (omega arith))) (last_end a refl))
      where
        last_end : (c : ℕ) → a ≡ c → a * fr.size ≤ js.end J
        last_end zero is = omega (arith, ap (λ x. x * fr.size) is)
        last_end (suc h) is = omega (arith, ap (λ x. x * fr.size) is, ends h (omega arith))

    -- a job that ends no later than J and is given something in the run is confined to it
    gift_confines : (g k : ℕ) → a ≤ g → g < b → k < js.count → js.end k ≤ js.end J → 0 < G g k → is_confined js fr a b k ≡ true
    gift_confines g k low high l early some =
        let yes_open = s.within g k (omega arith) l some in
        let ended : (g + 1) * fr.size ≤ js.end k =
        leb-true ((g + 1) * fr.size) (js.end k) (and_parts (leb (js.release k) (g * fr.size)) (leb ((g + 1) * fr.size) (js.end k)) yes_open).1
        in
        (confined_decides js fr a b k).1
        (confines k l early (omega (arith, sum_grows a g (λ t. G t k) low, s.most k l (suc g) (omega arith)))
        (omega (arith, mul-le-mul_right {m = a} {n = g + 1} fr.size (omega arith))))

    -- What the run gives to job k, if that ends no later than J, is part of the run's load; of J's part a
    -- tick is not given.
    abbrev LoadTakes : ℕ → Type 0
    LoadTakes k = Sum b (λ g. urgent_gift g k) + only J 1 k ≤ Sum a (λ g. urgent_gift g k) + cond (is_confined js fr a b k) (js.cost k) 0

    later_job_takes : (k : ℕ) → js.end J < js.end k → LoadTakes k
    later_job_takes k late =
        let none : Sum b (λ g. urgent_gift g k) ≡ 0 =
        sum_same b (λ g. urgent_gift g k) (λ _. 0) (λ g _. cond-false (leb (js.end k) (js.end J)) (G g k) 0 (lt-leb (js.end k) (js.end J) late)) ∙ sum_of_zeros b
        in
        omega (arith, only_elsewhere J 1 k (λ e. let z : js.end k ≡ js.end J = ap js.end e in omega arith))

    urgent_is_given : (k : ℕ) → js.end k ≤ js.end J → (t : ℕ) → Sum t (λ g. urgent_gift g k) ≡ given G k t
    urgent_is_given k early t =
        sum_same t (λ g. urgent_gift g k) (λ g. G g k) (λ g _. cond-true (leb (js.end k) (js.end J)) (G g k) 0 (le-leb (js.end k) (js.end J) early))

    j_lacks_a_tick : (k : ℕ) → k < js.count → given G k b + only J 1 k ≤ js.cost k
    j_lacks_a_tick k l =
        ⊎_elim {C = given G k b + only J 1 k ≤ js.cost k}
        (λ e.
        let lacks : given G k fr.count < js.cost k = subst (λ x. given G x fr.count < js.cost x) (sym e) short in
        omega (arith, ap (only J 1) e ∙ only_here J 1, sum_grows b fr.count (λ g. G g k) inside))
        (λ apart. omega (arith, only_elsewhere J 1 k apart, s.most k l b inside))
        (cases_eq k J)

    confined_job_takes : (k : ℕ) → k < js.count → js.end k ≤ js.end J → is_confined js fr a b k ≡ true → LoadTakes k
    confined_job_takes k l early sure =
        omega (arith, urgent_is_given k early b, j_lacks_a_tick k l, cond-true (is_confined js fr a b k) (js.cost k) 0 sure)

    -- a job that ends no later than J and is not confined to the run is given nothing there
    other_job_takes : (k : ℕ) → k < js.count → js.end k ≤ js.end J → is_confined js fr a b k ≡ false → LoadTakes k
    other_job_takes k l early other =
        let apart : k ≡ J → ⊥ = λ e. both_ways (is_confined js fr a b k) other (subst (λ x. is_confined js fr a b x ≡ true) (sym e) j_confined) in
        let still : given G k b ≡ given G k a =
        sum_unchanged a b (λ g. G g k) forward (λ g low high.
        ⊎_elim {C = G g k ≡ 0}
        (λ some. absurd (both_ways (is_confined js fr a b k) other (gift_confines g k low high l early some)))
        (λ (no_gift : G g k ≤ 0). omega arith)
        (cases_lt 0 (G g k)))
        in
        omega (arith, urgent_is_given k early a, urgent_is_given k early b, only_elsewhere J 1 k apart)

    load_takes : (k : ℕ) → k < js.count → LoadTakes k
    load_takes k l =
        ⊎_elim {C = LoadTakes k}
        (later_job_takes k)
        (λ early. ⊎_elim {C = LoadTakes k} (confined_job_takes k l early) (other_job_takes k l early) (cases_Bool (is_confined js fr a b k)))
        (cases_lt (js.end J) (js.end k))

    overloaded : Overloaded js fr a b
    overloaded =
        let part : ℕ → ℕ = λ k. cond (is_confined js fr a b k) (js.cost k) 0 in
        let before : ℕ → ℕ = λ k. Sum a (λ g. urgent_gift g k) in
        record {
          forward = forward;
          inside = inside;
          over =
              omega (
                arith,
                rows_at_least js.count a b fr.size urgent_gift forward full,
                sum_with_more js.count J 1 (λ k. Sum b (λ g. urgent_gift g k)) (λ k. before k + part k) j_is load_takes,
                sum_of_both js.count before part,
              );
        }

  overloaded_run : (a : ℕ) × (b : ℕ) × Overloaded js fr a b
  overloaded_run =
      let reach = frames_by fr.count fr.size (js.end J) in
      let test : ℕ → Bool = λ g. leb fr.size (Sum js.count (urgent_gift g)) in
      let run = back test reach.0 in (
        run.0,
        reach.0,
        overloaded run.0 reach.0 run.1 reach.1 reach.2 reach.3
            (λ g low high. leb-true fr.size (Sum js.count (urgent_gift g)) (run.2 g low high))
            (λ h e. leb-false fr.size (Sum js.count (urgent_gift h)) (run.3 h e)),
      )

pub greedy_unfinished_overloads : GreedyUnfinishedOverloads
greedy_unfinished_overloads js fr G greedy J j_is short = overloaded_run js fr G ((loop_facts_are_greedy js fr G).1 greedy) J j_is short
