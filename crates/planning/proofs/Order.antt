use Rattle.std.proofs.Common.{◌≡◌, ℕ, zero, suc, ◌+◌, ◌-◌, ◌<◌, ◌≤◌, min, cond, ◌&&◌, ◌||◌, eqb, ltb, ap, ◌∙◌, subst, ⊎_elim, arith}
use Rattle.std.proofs.lemmas.Bool.{cases_Bool, cond-false, cond-true, eqb-true}
use Rattle.std.proofs.lemmas.Bool.Decides.{nat_tests}
use Rattle.planning.specs.Placing.{Sum, Jobs, is_before, ahead}
use Rattle.planning.proofs.Sums.{sum_same, sum_of_both, sum_of_only, sum_of_zeros, sum_with_more, term_at_most_sum, only}

-- the sum over the jobs that end before e, and over those that end at e and stand before position j
abbrev front : Jobs → (ℕ → ℕ) → ℕ → ℕ → ℕ
front js h e j = Sum js.count (λ k. cond (ltb (js.end k) e || (eqb (js.end k) e && ltb k j)) (h k) 0)

module _ (js : Jobs) (h : ℕ → ℕ) where
  front_none : front js h 0 0 ≡ 0
  front_none =
      sum_same js.count (λ k. cond (ltb (js.end k) 0 || (eqb (js.end k) 0 && ltb k 0)) (h k) 0) (λ _. 0) (λ k l. grind (arith, nat_tests))
      ∙ sum_of_zeros js.count

  front_step : (e j : ℕ) → j < js.count → front js h e (suc j) ≡ front js h e j + cond (eqb (js.end j) e) (h j) 0
  front_step e j l =
      let x : ℕ = cond (eqb (js.end j) e) (h j) 0 in
      let old : ℕ → ℕ = λ k. cond (ltb (js.end k) e || (eqb (js.end k) e && ltb k j)) (h k) 0 in
      sum_same js.count (λ k. cond (ltb (js.end k) e || (eqb (js.end k) e && ltb k (suc j))) (h k) 0) (λ k. old k + only j x k)
      (λ k m. let q : k ≡ j → h k ≡ h j = ap h in let r : k ≡ j → js.end k ≡ js.end j = ap js.end in grind (arith, nat_tests))
      ∙ (sum_of_both js.count old (only j x) ∙ ap (λ y. Sum js.count old + y) (sum_of_only js.count j x l))

  front_turn : (e : ℕ) → front js h (suc e) 0 ≡ front js h e js.count
  front_turn e =
      sum_same js.count (λ k. cond (ltb (js.end k) (suc e) || (eqb (js.end k) (suc e) && ltb k 0)) (h k) 0)
      (λ k. cond (ltb (js.end k) e || (eqb (js.end k) e && ltb k js.count)) (h k) 0) (λ k l. grind (arith, nat_tests))

  front_all : front js h (suc (Sum js.count js.end)) 0 ≡ Sum js.count h
  front_all =
      let e : ℕ = suc (Sum js.count js.end) in
      sum_same js.count (λ k. cond (ltb (js.end k) e || (eqb (js.end k) e && ltb k 0)) (h k) 0) h
      (λ k l. let low : js.end k ≤ Sum js.count js.end = term_at_most_sum js.count js.end k l in grind (arith, nat_tests))

-- what is given to those served before a job, and to the job, is part of the row
pub ahead_within_row : (js : Jobs) (row : ℕ → ℕ) (i : ℕ) → i < js.count → ahead js row i + row i ≤ Sum js.count row
ahead_within_row js row i l =
    sum_with_more js.count i (row i) (λ k. cond (is_before js k i) (row k) 0) row l
    (λ k m. let q : k ≡ i → row k ≡ row i = ap row in let r : k ≡ i → js.end k ≡ js.end i = ap js.end in grind (arith, nat_tests))

-- A row that is shared out of s ticks in the order of service, to jobs that want d.
module _ (js : Jobs) (s : ℕ) (d row : ℕ → ℕ)
    (each : (i : ℕ) → i < js.count → ahead js row i ≡ min s (ahead js d i) → row i ≡ min (d i) (s - ahead js d i)) where
  fronts_from : (e : ℕ) → front js row e 0 ≡ min s (front js d e 0) → (j : ℕ) → j ≤ js.count → front js row e j ≡ min s (front js d e j)
  fronts_from e start zero l = start
  fronts_from e start (suc j) l =
      let before : front js row e j ≡ min s (front js d e j) = fronts_from e start j (omega arith) in
      ⊎_elim {C = front js row e (suc j) ≡ min s (front js d e (suc j))}
      (λ here.
      let is : js.end j ≡ e = eqb-true (js.end j) e here in
      let gift : row j ≡ min (d j) (s - front js d e j) =
      subst (λ x. front js row x j ≡ min s (front js d x j) → row j ≡ min (d j) (s - front js d x j)) is (each j l) before
      in
      omega (arith, front_step js row e j l, front_step js d e j l, cond-true (eqb (js.end j) e) (row j) 0 here, cond-true (eqb (js.end j) e) (d j) 0 here))
      (λ apart. omega (arith, front_step js row e j l, front_step js d e j l, cond-false (eqb (js.end j) e) (row j) 0 apart, cond-false (eqb (js.end j) e) (d j) 0 apart))
      (cases_Bool (eqb (js.end j) e))

  fronts_at : (e : ℕ) → front js row e 0 ≡ min s (front js d e 0)
  fronts_at zero = omega (arith, front_none js row, front_none js d)
  fronts_at (suc e) = omega (arith, front_turn js row e, front_turn js d e, fronts_from e (fronts_at e) js.count (omega arith))

  -- those served before a job get what they want, as far as the ticks reach
  pub shared_ahead : (i : ℕ) → i < js.count → ahead js row i ≡ min s (ahead js d i)
  shared_ahead i l = fronts_from (js.end i) (fronts_at (js.end i)) i (omega arith)

  -- and so do all together
  pub shared_in_all : Sum js.count row ≡ min s (Sum js.count d)
  shared_in_all =
      let e : ℕ = suc (Sum js.count js.end) in
      omega (arith, front_all js row, front_all js d, fronts_at e)
