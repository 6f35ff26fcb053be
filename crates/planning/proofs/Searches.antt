use Rattle.std.proofs.Common.{◌≡◌, ℕ, ◌-◌, ◌<◌, ◌≤◌, true, eqb, ltb, leb, All, Contains, List, [], ◌∷◌, length, get_or, take, Some, None, sum_by, sym, ap, ◌∙◌, subst, ⊎_elim, arith, length-take, get_or-take}
use Rattle.std.proofs.lemmas.List.Elements.{All-cons, All-contains, All-head, All-tail, All-weaker, Contains-append_right, Contains-get_or}
use Rattle.std.proofs.lemmas.List.Sorted.{All-permutation, Contains-permutation, sum_by-IsPermutation}
use Rattle.std.proofs.lemmas.List.Sums.{sum_by-cons}
use Rattle.std.proofs.lemmas.Bool.{cases_lt, cases_Bool, ltb-true, eqb-true, cond-false}
use Rattle.std.specs.List.Sorted.{IsPermutation}
use Rattle.books.specs.Meaning.{Meaning}
use Rattle.orders.specs.Models.{candidate_le}
use Rattle.orders.specs.Order.{Least}
use Rattle.orders.specs.declared.candidate.Candidate.{Candidate}
use Rattle.planning.specs.Candidates.{Searched, Stands}
use Rattle.planning.specs.Hyperperiod.{LeastHyperperiod, NextServing, NoneServes, ServesTask}
use Rattle.planning.proofs.Membership.{has_cons_cases, has_head}

-- candidates that have not moved, one for each task
pub unmoved_start : (m : Meaning) (slots cs : List Candidate) → m.count ≤ 16 → length slots ≡ 16 → ((k : ℕ) (d : Candidate) → k < 16 → get_or slots k d ≡ record { number = 0; task = k }) → IsPermutation (take m.count slots) cs → Searched m 1 cs
unmoved_start m slots cs few long places arranged =
    let n = m.count in
    let front = take n slots in
    let at_k : (k : ℕ) (d : Candidate) → k < length front → get_or front k d ≡ record { number = 0; task = k } = λ k d h.
    let below : k < n = omega (arith, length-take n slots) in
    get_or-take n slots k d below ∙ places k d (omega arith)
    in
    record {
      tasks = λ t below.
          let inside : t < length front = omega (arith, length-take n slots) in
          (0, Contains-permutation front cs (record { number = 0; task = t }) arranged (let d : Candidate = record { number = 0; task = t } in subst (Contains front) (at_k t d inside) (Contains-get_or front t d inside)));
      stand =
          All-permutation (Stands m 1) front cs arranged
          (λ k d h.
          let below : k < n = omega (arith, length-take n slots) in
          subst (Stands m 1) (sym (at_k k d h)) (below, omega arith, λ low. absurd (omega arith)));
      below = λ k low under. absurd (omega arith);
    }

-- the least candidate has the least number
le_number : (x y : Candidate) → candidate_le x y ≡ true → x.number ≤ y.number
le_number x y h =
    ⊎_elim {C = x.number ≤ y.number}
    (λ same. omega (arith, eqb-true x.number y.number same))
    (λ apart. omega (arith, ltb-true x.number y.number (rw (sym (cond-false (eqb x.number y.number) (leb x.task y.task) (ltb x.number y.number) apart)) h)))
    (cases_Bool (eqb x.number y.number))

module _ (m : Meaning) (highest : ℕ) (cs : List Candidate) (s : Searched m highest cs) where
  -- the heap is not empty
  pub some_candidate : 1 ≤ m.count → cs ≡ [] → ⊥
  some_candidate some none =
      let has = (s.tasks 0 some).1 in
      let z : has.0 < length {A = Candidate} [] = subst (λ l. has.0 < length l) none has.1 in
      omega arith

  -- where the least candidate is at the highest number, all are, and it is the least hyperperiod
  pub all_agree : (x : Candidate) (ceiling : ℕ) → Least candidate_le x cs → x.number ≡ highest → 1 ≤ highest → highest ≤ ceiling → LeastHyperperiod m ceiling highest
  all_agree x ceiling least top low high =
      record {
        low = low;
        high = high;
        serves = λ t below.
            let has = s.tasks t below in
            let y : Candidate = record { number = has.0; task = t } in
            let stands = All-contains (Stands m highest) cs y s.stand has.1 in
            let same : has.0 ≡ highest = omega (arith, stands.1, le_number x y (All-contains (λ c. candidate_le x c ≡ true) cs y least has.1)) in
            subst (λ n. ServesTask m n t) same (stands.2 (omega arith));
        least = s.below;
      }

  module _ (x : Candidate) (ds : List Candidate) (taken : IsPermutation cs (x ∷ ds)) where
    stands_all : All (Stands m highest) (x ∷ ds)
    stands_all = All-permutation (Stands m highest) cs (x ∷ ds) taken s.stand

    pub taken_stands : Stands m highest x
    taken_stands = All-head (Stands m highest) x ds stands_all

    -- a task that no number from the highest on serves leaves none that serves the book
    pub none_left : (ceiling : ℕ) → NextServing m x.task highest ceiling None → NoneServes m ceiling
    none_left ceiling none n low high serves =
        ⊎_elim {C = ⊥}
        (λ under. s.below n low under serves)
        (λ over. none n over high (serves x.task taken_stands.0))
        (cases_lt n highest)

    -- and where the task has a next number, the search goes on from it
    pub moved : (ceiling n : ℕ) (es : List Candidate) → NextServing m x.task highest ceiling (Some n) → IsPermutation (record { number = n; task = x.task } ∷ ds) es → Searched m n es
    moved ceiling n es next pushed =
        let y : Candidate = record { number = n; task = x.task } in
        record {
          tasks = λ t below.
              let has = s.tasks t below in
              let z : Candidate = record { number = has.0; task = t } in
              ⊎_elim {C = (k : ℕ) × Contains es (record { number = k; task = t })}
              (λ is. (n, subst (λ u. Contains es (record { number = n; task = u })) (ap (λ c. c.task) is) (Contains-permutation (y ∷ ds) es y pushed (has_head y ds))))
              (λ rest. (has.0, Contains-permutation (y ∷ ds) es z pushed (Contains-append_right (y ∷ []) ds z rest)))
              (has_cons_cases x ds z (Contains-permutation cs (x ∷ ds) z taken has.1));
          stand =
              All-permutation (Stands m n) (y ∷ ds) es pushed
              (All-cons (Stands m n) y ds (taken_stands.0, omega arith, λ _. next.2)
              (All-weaker (Stands m highest) (Stands m n) (λ c st. (st.0, omega (arith, st.1, next.0), st.2)) ds
              (All-tail (Stands m highest) x ds stands_all)));
          below = λ k low under serves.
              ⊎_elim {C = ⊥}
              (λ early. s.below k low early serves)
              (λ late. next.3 k late under (serves x.task taken_stands.0))
              (cases_lt k highest);
        }

    -- a candidate that moves up is nearer to the ceiling
    pub nearer : (ceiling n : ℕ) (es : List Candidate) → (x.number ≡ highest → ⊥) → NextServing m x.task highest ceiling (Some n) → IsPermutation (record { number = n; task = x.task } ∷ ds) es → sum_by (λ c. ceiling - c.number) es < sum_by (λ c. ceiling - c.number) cs
    nearer ceiling n es apart next pushed =
        let f : Candidate → ℕ = λ c. ceiling - c.number in
        let y : Candidate = record { number = n; task = x.task } in
        omega (arith, apart, taken_stands.1, next.0, next.1, sum_by-IsPermutation f cs (x ∷ ds) taken, sum_by-IsPermutation f (y ∷ ds) es pushed, sum_by-cons f x ds, sum_by-cons f y ds)
