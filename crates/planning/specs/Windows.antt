use Rattle.std.specs.Prelude.{◌≡◌, ℕ, zero, suc, ◌+◌, ◌*◌, ◌/◌, ◌<◌, min, ◌⊎◌, List, [], ◌++◌, map, length, slice_index, slice_index_or}
use Rattle.std.specs.List.{range_with_len}
use Rattle.planning.specs.declared.job.Figures.{Figures}
use Rattle.planning.specs.declared.job.Job.{Job}
use Rattle.planning.specs.Placing.{Jobs}

-- The window of a job: job j of a task is released at j times its period, and ends as long after that as the
-- smaller of its deadline and its period. Every task starts at 0.
abbrev pub window_of : ℕ → ℕ → Figures → ℕ → Job
window_of task period figures j = record {
  task = task;
  job = j;
  release = j * period;
  end = j * period + min figures.deadline period;
  cost = figures.cost;
}

-- The jobs of a task in the hyperperiod, as many as its period goes into it, one after the other.
abbrev pub jobs_of_task : ℕ → ℕ → ℕ → Figures → List Job
jobs_of_task hyperperiod task period figures = map (window_of task period figures) (range_with_len 0 (hyperperiod / period))

-- The jobs of the first n tasks in the hyperperiod, task by task.
abbrev pub jobs_of : ℕ → (ℕ → ℕ) → (ℕ → Figures) → ℕ → List Job
jobs_of hyperperiod period figures zero = []
jobs_of hyperperiod period figures (suc n) =
    jobs_of hyperperiod period figures n ++ jobs_of_task hyperperiod n (period n) (figures n)

-- The job at a position of the list.
abbrev pub job_at : List Job → ℕ → Job
job_at jobs i = slice_index_or jobs i (record { task = 0; job = 0; release = 0; end = 0; cost = 0 })

-- Listed jobs as they are placed into frames: by position, with nothing but windows and costs.
abbrev pub placed : List Job → Jobs
placed jobs = record {
  count = length jobs;
  release = λ i. (job_at jobs i).release;
  end = λ i. (job_at jobs i).end;
  cost = λ i. (job_at jobs i).cost;
}

-- The jobs are listed task by task and, for each task, in the order of their numbers.
abbrev pub InOrder : List Job → Type 0
InOrder jobs =
    (i k : ℕ) → i < k → k < length jobs →
    ((job_at jobs i).task < (job_at jobs k).task) ⊎ (((job_at jobs i).task ≡ (job_at jobs k).task) × ((job_at jobs i).job < (job_at jobs k).job))

-- A job's position is that of its task's first job, and its number more.
abbrev pub Indexed : List ℕ → List Job → Type 0
Indexed firsts jobs =
    (i : ℕ) → i < length jobs → ((job_at jobs i).task < 16) × (slice_index firsts (job_at jobs i).task + (job_at jobs i).job ≡ i)
