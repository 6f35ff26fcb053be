use Rattle.std.proofs.Common.{◌≡◌, ℕ, zero, suc, ◌+◌, ◌-◌, ◌*◌, ◌/◌, ◌<◌, ◌≤◌, min, ◌≢◌, ◌⊎◌, List, [], ◌∷◌, ◌++◌, map, length, get_or, set, sym, refl, ap, ◌∙◌, inl, inr, ⊎_elim, mul-le-mul_right, div-le_self, div-mul-le_self, add-one, arith, below_more}
use Rattle.std.proofs.lemmas.List.FromFn.{get_or-map-range_with_len, length-map-range_with_len, map-range_with_len_more}
use Rattle.std.proofs.lemmas.List.{append_assoc, get_or_append_left, get_or-append_right, get_or-set_other, get_or-set_same, length-append}
use Rattle.std.specs.List.{range_with_len}
use Rattle.std.proofs.lemmas.Bool.{cases_lt, cases_order}
use Rattle.planning.specs.declared.job.Figures.{Figures}
use Rattle.planning.specs.declared.job.Job.{Job}
use Rattle.planning.specs.Placing.{Sum}
use Rattle.planning.specs.Windows.{window_of, jobs_of_task, jobs_of, job_at, InOrder, Indexed}
use Rattle.planning.proofs.Sums.{sum_grows}

-- Position i has a job of one of the first n tasks: it comes after the jobs of all earlier tasks and the
-- earlier ones of its own.
pub record JobStands (hyperperiod : ℕ) (period : ℕ → ℕ) (figures : ℕ → Figures) (n i : ℕ) : Type 0 where
  pub task : ℕ
  pub job : ℕ
  pub low : task < n
  pub few : job < hyperperiod / period task
  pub place : Sum task (λ t. hyperperiod / period t) + job ≡ i
  pub is : job_at (jobs_of hyperperiod period figures n) i ≡ window_of task (period task) (figures task) job

module _ (hyperperiod : ℕ) (period : ℕ → ℕ) (figures : ℕ → Figures) where
  pub length_jobs_of : (n : ℕ) → length (jobs_of hyperperiod period figures n) ≡ Sum n (λ t. hyperperiod / period t)
  length_jobs_of zero = refl
  length_jobs_of (suc n) =
      omega (
        arith,
        length-append (jobs_of hyperperiod period figures n) (jobs_of_task hyperperiod n (period n) (figures n)),
        length-map-range_with_len (window_of n (period n) (figures n)) 0 (hyperperiod / period n),
        length_jobs_of n,
      )

  pub job_stands : (n i : ℕ) → i < length (jobs_of hyperperiod period figures n) → JobStands hyperperiod period figures n i
  job_stands zero i inside = absurd (omega arith)
  job_stands (suc n) i inside =
      let before : List Job = jobs_of hyperperiod period figures n in
      let own : List Job = jobs_of_task hyperperiod n (period n) (figures n) in
      let d : Job = record { task = 0; job = 0; release = 0; end = 0; cost = 0 } in
      let start : ℕ = Sum n (λ t. hyperperiod / period t) in
      ⊎_elim {C = JobStands hyperperiod period figures (suc n) i}
      (λ early.
      let within : i < length before = omega (arith, length_jobs_of n) in
      let r = job_stands n i within in
      record {
        task = r.task;
        job = r.job;
        low = omega (arith, r.low);
        few = r.few;
        place = r.place;
        is = get_or_append_left before own d i within ∙ r.is;
      })
      (λ late.
      let few : i - start < hyperperiod / period n = omega (arith, length_jobs_of (suc n)) in
      record {
        task = n;
        job = i - start;
        low = omega arith;
        few = few;
        place = omega arith;
        is =
            get_or-append_right before own start i d (length_jobs_of n) late
            ∙ get_or-map-range_with_len (window_of n (period n) (figures n)) 0 (hyperperiod / period n) (i - start) (i - start) d few (omega arith);
      })
      (cases_lt i start)

  -- the jobs are listed in order
  pub jobs_in_order : (n : ℕ) → InOrder (jobs_of hyperperiod period figures n)
  jobs_in_order n i k below inside =
      let jobs : List Job = jobs_of hyperperiod period figures n in
      let counts : ℕ → ℕ = λ t. hyperperiod / period t in
      let a = job_stands n i (omega arith) in
      let b = job_stands n k inside in
      let a_task : (job_at jobs i).task ≡ a.task = ap (λ (x : Job). x.task) a.is in
      let b_task : (job_at jobs k).task ≡ b.task = ap (λ (x : Job). x.task) b.is in
      let a_job : (job_at jobs i).job ≡ a.job = ap (λ (x : Job). x.job) a.is in
      let b_job : (job_at jobs k).job ≡ b.job = ap (λ (x : Job). x.job) b.is in
      ⊎_elim {C = ((job_at jobs i).task < (job_at jobs k).task) ⊎ (((job_at jobs i).task ≡ (job_at jobs k).task) × ((job_at jobs i).job < (job_at jobs k).job))}
      (λ same.
      inr (a_task ∙ same ∙ sym b_task, omega (arith, a_job, b_job, a.place, b.place, ap (λ t. Sum t counts) same)))
      (λ apart.
      ⊎_elim {C = ((job_at jobs i).task < (job_at jobs k).task) ⊎ (((job_at jobs i).task ≡ (job_at jobs k).task) × ((job_at jobs i).job < (job_at jobs k).job))}
      (λ lower. inl (omega (arith, a_task, b_task)))
      (λ higher. absurd (omega (arith, a.place, b.place, b.few, sum_grows (suc b.task) a.task counts higher)))
      apart)
      (cases_order a.task b.task)

  -- where each task's first job is noted, so is the position of every job
  pub firsts_index : (n : ℕ) (firsts : List ℕ) → n ≤ 16 → ((t : ℕ) → t < n → get_or firsts t 0 ≡ Sum t (λ k. hyperperiod / period k)) → Indexed firsts (jobs_of hyperperiod period figures n)
  firsts_index n firsts few noted i inside =
      let jobs : List Job = jobs_of hyperperiod period figures n in
      let a = job_stands n i inside in
      let a_task : (job_at jobs i).task ≡ a.task = ap (λ (x : Job). x.task) a.is in
      let a_job : (job_at jobs i).job ≡ a.job = ap (λ (x : Job). x.job) a.is in (
        omega (arith, a_task, a.low),
        omega (arith, ap (λ t. get_or firsts t 0) a_task, a_job, noted a.task a.low, a.place),
      )

-- a task has no more jobs than the hyperperiod has ticks
pub jobs_at_most : (hyperperiod n : ℕ) (period : ℕ → ℕ) → hyperperiod ≤ 1000000 → Sum n (λ t. hyperperiod / period t) ≤ n * 1000000
jobs_at_most hyperperiod zero period few = omega arith
jobs_at_most hyperperiod (suc n) period few =
    omega (arith, jobs_at_most hyperperiod n period few, div-le_self hyperperiod (period n))

-- a job is released within the hyperperiod
pub release_within : (hyperperiod period job : ℕ) → job < hyperperiod / period → job * period ≤ hyperperiod
release_within hyperperiod period job few =
    omega (arith, div-mul-le_self hyperperiod period, mul-le-mul_right period (let l : job ≤ hyperperiod / period = omega arith in l))

-- the list of a task's first jobs, with the next one
pub next_job_listed : (task period : ℕ) (figures : Figures) (job length : ℕ) (before listed after : List Job) → length ≡ min figures.deadline period → listed ≡ before ++ map (window_of task period figures) (range_with_len 0 job) → after ≡ listed ++ record { task = task; job = job; release = job * period; end = job * period + length; cost = figures.cost } ∷ [] → after ≡ before ++ map (window_of task period figures) (range_with_len 0 (job + 1))
next_job_listed task period figures job length before listed after shorter so_far pushed =
    let own : List Job = map (window_of task period figures) (range_with_len 0 job) in
    pushed
    ∙ ap (λ n. listed ++ record { task = task; job = job; release = job * period; end = job * period + n; cost = figures.cost } ∷ []) shorter
    ∙ ap (λ l. l ++ window_of task period figures job ∷ []) so_far
    ∙ append_assoc before own (window_of task period figures job ∷ [])
    ∙ ap (λ l. before ++ l) (sym (map-range_with_len_more (window_of task period figures) 0 job job (omega arith)))

-- the list of the first tasks' jobs, with those of the next one
pub next_task_listed : (hyperperiod : ℕ) (period : ℕ → ℕ) (figures : ℕ → Figures) (n : ℕ) (own : Figures) (listed after : List Job) → own ≡ figures n → listed ≡ jobs_of hyperperiod period figures n → after ≡ listed ++ jobs_of_task hyperperiod n (period n) own → after ≡ jobs_of hyperperiod period figures (n + 1)
next_task_listed hyperperiod period figures n own listed after noted so_far added =
    rw add-one (
    added
    ∙ ap (λ x. listed ++ jobs_of_task hyperperiod n (period n) x) noted
    ∙ ap (λ l. l ++ jobs_of_task hyperperiod n (period n) (figures n)) so_far
    )

-- the positions of the first tasks' first jobs, with that of the next one
pub next_first_noted : (firsts : List ℕ) (n start : ℕ) (h : ℕ → ℕ) → n < length firsts → start ≡ Sum n h → ((t : ℕ) → t < n → get_or firsts t 0 ≡ Sum t h) → (t : ℕ) → t < n + 1 → get_or (set firsts n start) t 0 ≡ Sum t h
next_first_noted firsts n start h inside here so_far =
    below_more (λ t. get_or (set firsts n start) t 0 ≡ Sum t h) n
    (λ t low. let other : t ≢ n = omega arith in get_or-set_other firsts n t start 0 other ∙ so_far t low)
    (get_or-set_same firsts n start 0 inside ∙ here)
