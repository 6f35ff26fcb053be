use Rattle.std.proofs.Common.{◌≡◌, ℕ, zero, suc, ◌+◌, ◌/◌, ◌<◌, ◌≤◌, ◌⊎◌, List, length, sym, ◌∙◌, subst, ⊎_elim, arith}
use Rattle.std.proofs.lemmas.List.FromFn.{get_or-map-range_with_len, length-map-range_with_len}
use Rattle.std.proofs.lemmas.List.{get_or-append-add, get_or_append_left, length-append}
use Rattle.std.proofs.lemmas.Bool.{cases_lt, cases_order}
use Rattle.planning.specs.declared.job.Figures.{Figures}
use Rattle.planning.specs.declared.job.Job.{Job}
use Rattle.planning.specs.Windows.{InOrder, job_at, jobs_of, jobs_of_task, window_of}

-- A job of a task is found in the list of jobs.
pub record JobFound (jobs : List Job) (window : Job) : Type 0 where
  pub position : ℕ
  pub inside : position < length jobs
  pub is : job_at jobs position ≡ window

module _ (hyperperiod : ℕ) (period : ℕ → ℕ) (figures : ℕ → Figures) where
  found_at_last : (n j : ℕ) → j < hyperperiod / period n → JobFound (jobs_of hyperperiod period figures (suc n)) (window_of n (period n) (figures n) j)
  found_at_last n j few =
      let before : List Job = jobs_of hyperperiod period figures n in
      let own : List Job = jobs_of_task hyperperiod n (period n) (figures n) in
      let d : Job = record { task = 0; job = 0; release = 0; end = 0; cost = 0 } in
      record {
        position = length before + j;
        inside = omega (arith, length-append before own, length-map-range_with_len (window_of n (period n) (figures n)) 0 (hyperperiod / period n));
        is = get_or-append-add before own j d ∙ get_or-map-range_with_len (window_of n (period n) (figures n)) 0 (hyperperiod / period n) j j d few (omega arith);
      }

  pub job_found : (n t j : ℕ) → t < n → j < hyperperiod / period t → JobFound (jobs_of hyperperiod period figures n) (window_of t (period t) (figures t) j)
  job_found zero t j low few = absurd (omega arith)
  job_found (suc n) t j low few =
      let before : List Job = jobs_of hyperperiod period figures n in
      let own : List Job = jobs_of_task hyperperiod n (period n) (figures n) in
      let d : Job = record { task = 0; job = 0; release = 0; end = 0; cost = 0 } in
      ⊎_elim {C = JobFound (jobs_of hyperperiod period figures (suc n)) (window_of t (period t) (figures t) j)}
      (λ early.
      let r = job_found n t j early few in
      record {
        position = r.position;
        inside = omega (arith, r.inside, length-append before own);
        is = get_or_append_left before own d r.position r.inside ∙ r.is;
      })
      (λ (late : n ≤ t).
      let same : n ≡ t = omega arith in
      let last : j < hyperperiod / period n = subst (λ x. j < hyperperiod / period x) (sym same) few in
      subst (λ x. JobFound (jobs_of hyperperiod period figures (suc n)) (window_of x (period x) (figures x) j)) same (found_at_last n j last))
      (cases_lt t n)

-- a task and a number stand at one position only
pub one_position : (jobs : List Job) → InOrder jobs → (i k : ℕ) → i < length jobs → k < length jobs → (job_at jobs i).task ≡ (job_at jobs k).task → (job_at jobs i).job ≡ (job_at jobs k).job → i ≡ k
one_position jobs order i k inside within same_task same_job =
    ⊎_elim {C = i ≡ k} (λ same. same)
    (λ apart.
    ⊎_elim {C = i ≡ k} (λ below. absurd (not_before i k same_task same_job (order i k below within)))
    (λ above. absurd (not_before k i (sym same_task) (sym same_job) (order k i above inside)))
    apart)
    (cases_order i k)
  where
    not_before : (a b : ℕ) → (job_at jobs a).task ≡ (job_at jobs b).task → (job_at jobs a).job ≡ (job_at jobs b).job → ((job_at jobs a).task < (job_at jobs b).task) ⊎ (((job_at jobs a).task ≡ (job_at jobs b).task) × ((job_at jobs a).job < (job_at jobs b).job)) → ⊥
    not_before a b task job earlier = ⊎_elim {C = ⊥} (λ less. omega arith) (λ less. omega (arith, less.1)) earlier
