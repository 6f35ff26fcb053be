use Rattle.std.proofs.Common.{◌≡◌, ℕ, ◌+◌, ◌*◌, ◌<◌, ◌≤◌, Bool, true, false, cond, not, ◌&&◌, eqb, List, [], ◌∷◌, length, take, set, sum_by, sym, refl, ap, ◌∙◌, subst, ⊎_elim, arith}
use Rattle.std.specs.List.Sorted.{IsPermutation}
use Rattle.std.proofs.lemmas.List.{take_more_set}
use Rattle.std.proofs.lemmas.List.Sorted.{sum_by-IsPermutation}
use Rattle.std.proofs.lemmas.List.Elements.{All-weaker}
use Rattle.std.proofs.lemmas.List.Sums.{sum_by-cons, sum_by-le, sum_by_push}
use Rattle.std.proofs.lemmas.Bool.{and_parts, cases_Bool, cases_eq, cases_lt, cond-false, cond-true, eqb-true}
use Rattle.std.proofs.lemmas.Bool.Decides.{nat_tests}
use Rattle.orders.specs.Models.{waiting_le}
use Rattle.orders.specs.Order.{Least}
use Rattle.orders.specs.declared.waiting.Waiting.{Waiting}
use Rattle.planning.specs.declared.job.Job.{Job}
use Rattle.planning.specs.Placing.{Sum, is_before}
use Rattle.planning.specs.Waits.{waiting_of, Holds}
use Rattle.planning.specs.Windows.{job_at, placed, InOrder}
use Rattle.planning.proofs.Sums.{some_term, sum_more, sum_same, sum_of_both, sum_of_only, only, only_elsewhere, only_here, term_at_most_sum}

-- the weight of job i among those that wait
abbrev weighed : List Job → (ℕ → Bool) → (Waiting → ℕ) → ℕ → ℕ
weighed jobs waits weight i = cond (waits i) (weight (waiting_of (job_at jobs i))) 0

-- One more slot is filled, by a job that waits.
pub holds_one_more : (jobs : List Job) (waits : ℕ → Bool) (slots filled : List Waiting) (count more i : ℕ) (weight : Waiting → ℕ)
    → count < length slots → waits i ≡ true → more ≡ count + 1 → filled ≡ set slots count (waiting_of (job_at jobs i))
    → sum_by weight (take count slots) ≡ Sum i (weighed jobs waits weight)
    → sum_by weight (take more filled) ≡ Sum (i + 1) (weighed jobs waits weight)
holds_one_more jobs waits slots filled count more i weight inside waiting one new before =
    let x : Waiting = waiting_of (job_at jobs i) in
    omega (
      arith,
      ap (sum_by weight) (ap (λ n. take n filled) one ∙ (ap (take (count + 1)) new ∙ take_more_set slots count x inside)),
      sum_by_push weight (take count slots) x,
      sum_more i (weighed jobs waits weight),
      cond-true (waits i) (weight x) 0 waiting,
    )

-- A job that does not wait is passed over.
pub holds_no_more : (jobs : List Job) (waits : ℕ → Bool) (slots same : List Waiting) (count still i : ℕ) (weight : Waiting → ℕ)
    → waits i ≡ false → still ≡ count → same ≡ slots
    → sum_by weight (take count slots) ≡ Sum i (weighed jobs waits weight)
    → sum_by weight (take still same) ≡ Sum (i + 1) (weighed jobs waits weight)
holds_no_more jobs waits slots same count still i weight waits_not no_more kept before =
    omega (
      arith,
      ap (sum_by weight) (ap (λ n. take n same) no_more ∙ ap (take count) kept),
      sum_more i (weighed jobs waits weight),
      cond-false (waits i) (weight (waiting_of (job_at jobs i))) 0 waits_not,
    )

-- 1 for a waiting job that is the same as x, and 0 for any other
abbrev same : Waiting → Waiting → ℕ
same x y = cond ((eqb x.end y.end && eqb x.task y.task) && eqb x.job y.job) 1 0

same_itself : (x : Waiting) → same x x ≡ 1
same_itself x = grind (arith, nat_tests)

same_parts : (x y : Waiting) → x.end ≡ y.end → x.task ≡ y.task → x.job ≡ y.job → x ≡ y
same_parts x y e t j =
    ap (λ n. record { end = n; task = x.task; job = x.job }) e
    ∙ (ap (λ n. record { end = y.end; task = n; job = x.job }) t ∙ ap (λ n. record { end = y.end; task = y.task; job = n }) j)

same_is : (x y : Waiting) → 0 < same x y → x ≡ y
same_is x y some =
    ⊎_elim {C = x ≡ y}
    (λ yes.
    let ends = and_parts (eqb x.end y.end && eqb x.task y.task) (eqb x.job y.job) yes in
    let two = and_parts (eqb x.end y.end) (eqb x.task y.task) ends.0 in
    same_parts x y (eqb-true x.end y.end two.0) (eqb-true x.task y.task two.1) (eqb-true x.job y.job ends.1))
    (λ other. absurd (omega (arith, cond-false {A = ℕ} ((eqb x.end y.end && eqb x.task y.task) && eqb x.job y.job) 1 0 other)))
    (cases_Bool ((eqb x.end y.end && eqb x.task y.task) && eqb x.job y.job))

-- a weight above 0 is that of a job that waits
waits_where_weighed : (t : Bool) (n : ℕ) → 0 < cond t n 0 → (t ≡ true) × (0 < n)
waits_where_weighed true n some = (refl, some)
waits_where_weighed false n some = absurd (omega arith)

-- who is served waits no more, and nobody else stops waiting
pub leaves : (t : Bool) (i : ℕ) → (t && not (eqb i i)) ≡ false
leaves t i = grind (arith, nat_tests)

pub stays : (t : Bool) (k i : ℕ) → (k ≡ i → ⊥) → (t && not (eqb k i)) ≡ t
stays t k i apart = grind (arith, nat_tests)

module _ (jobs : List Job) (waits : ℕ → Bool) (held : List Waiting) (holds : Holds jobs waits held) where
  -- Where nothing is held, nobody waits.
  pub nobody_waits : held ≡ [] → (i : ℕ) → i < length jobs → waits i ≡ false
  nobody_waits none i l =
      let empty : sum_by (λ _. 1) held ≡ 0 = ap (sum_by (λ _. 1)) none in
      ⊎_elim {C = waits i ≡ false}
      (λ waiting.
      absurd (omega (arith, holds (λ _. 1), term_at_most_sum (length jobs) (weighed jobs waits (λ _. 1)) i l, cond-true {A = ℕ} (waits i) 1 0 waiting)))
      (λ waits_not. waits_not)
      (cases_Bool (waits i))

  -- What is at most each held job is at most each that waits.
  pub least_of_waiting : (x : Waiting) → Least waiting_le x held → (i : ℕ) → i < length jobs → waits i ≡ true → waiting_le x (waiting_of (job_at jobs i)) ≡ true
  least_of_waiting x least i l waiting =
      ⊎_elim {C = waiting_le x (waiting_of (job_at jobs i)) ≡ true}
      (λ yes. yes)
      (λ no.
      absurd
      (omega (arith, holds over, none_over, term_at_most_sum (length jobs) (weighed jobs waits over) i l, cond-true {A = ℕ} (waits i) (over (waiting_of (job_at jobs i))) 0 waiting, cond-false {A = ℕ} (waiting_le x (waiting_of (job_at jobs i))) 0 1 no)))
      (cases_Bool (waiting_le x (waiting_of (job_at jobs i))))
    where
      over : Waiting → ℕ
      over y = cond (waiting_le x y) 0 1

      none_over : sum_by over held ≤ length held * 0
      none_over =
          sum_by-le over 0 held (All-weaker (λ y. waiting_le x y ≡ true) (λ y. over y ≤ 0) (λ y le. omega (arith, cond-true {A = ℕ} (waiting_le x y) 0 1 le)) held least)

  module _ (x : Waiting) (rest : List Waiting) (taken : IsPermutation held (x ∷ rest)) where
    -- What is taken is a job that waits.
    pub taken_waits : (i : ℕ) × (i < length jobs) × (waits i ≡ true) × (x ≡ waiting_of (job_at jobs i))
    taken_waits =
        let found = some_term (length jobs) (weighed jobs waits (same x)) (omega (arith, holds (same x), sum_by-IsPermutation (same x) held (x ∷ rest) taken, sum_by-cons (same x) x rest, same_itself x)) in
        let is = waits_where_weighed (waits found.0) (same x (waiting_of (job_at jobs found.0))) found.2 in
        (found.0, found.1, is.0, same_is x (waiting_of (job_at jobs found.0)) is.1)

    -- And the others still wait.
    pub rest_holds : (i : ℕ) → i < length jobs → waits i ≡ true → x ≡ waiting_of (job_at jobs i) → Holds jobs (λ k. waits k && not (eqb k i)) rest
    rest_holds i l waiting is weight =
        let stay : ℕ → Bool = λ k. waits k && not (eqb k i) in
        let each : (k : ℕ) → k < length jobs → weighed jobs waits weight k ≡ weighed jobs stay weight k + only i (weight x) k = λ k m.
        ⊎_elim {C = weighed jobs waits weight k ≡ weighed jobs stay weight k + only i (weight x) k}
        (λ (here : k ≡ i).
        subst (λ j. weighed jobs waits weight j ≡ weighed jobs stay weight j + only i (weight x) j) (sym here)
        (omega (arith, only_here i (weight x), ap weight is, cond-true (waits i) (weight (waiting_of (job_at jobs i))) 0 waiting, cond-false (stay i) (weight (waiting_of (job_at jobs i))) 0 (leaves (waits i) i))))
        (λ (apart : k ≡ i → ⊥). omega (arith, only_elsewhere i (weight x) k apart, ap (λ t. cond t (weight (waiting_of (job_at jobs k))) 0) (stays (waits k) k i apart)))
        (cases_eq k i)
        in
        omega (
          arith,
          holds weight,
          sum_by-IsPermutation weight held (x ∷ rest) taken,
          sum_by-cons weight x rest,
          sum_same (length jobs) (weighed jobs waits weight) (λ k. weighed jobs stay weight k + only i (weight x) k) each,
          sum_of_both (length jobs) (weighed jobs stay weight) (only i (weight x)),
          sum_of_only (length jobs) i (weight x) l,
        )

-- The order of waiting jobs is the order of service: jobs stand in the order of task and number.
pub least_is_before : (jobs : List Job) → InOrder jobs → (i k : ℕ) → i < length jobs → k < length jobs → (k ≡ i → ⊥)
    → waiting_le (waiting_of (job_at jobs i)) (waiting_of (job_at jobs k)) ≡ true → is_before (placed jobs) i k ≡ true
least_is_before jobs order i k l m apart le =
    ⊎_elim {C = is_before (placed jobs) i k ≡ true}
    (λ (low : i < k). grind (arith, nat_tests))
    (λ (high : k ≤ i). let other = order k i (omega arith) l in grind (arith, nat_tests))
    (cases_lt i k)
