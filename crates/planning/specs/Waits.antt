use Rattle.std.specs.Prelude.{◌≡◌, ℕ, Bool, cond, ◌&&◌, List, length, sum_by, nat_le, nat_lt, slice_index}
use Rattle.orders.specs.declared.waiting.Waiting.{Waiting}
use Rattle.planning.specs.declared.job.Job.{Job}
use Rattle.planning.specs.Placing.{Sum}
use Rattle.planning.specs.Windows.{job_at}

-- A job as it waits to be served.
abbrev pub waiting_of : Job → Waiting
waiting_of j = record { end = j.end; task = j.task; job = j.job }

-- A job waits for the frame from tick `begin` to tick `stop`: the frame is open to it, and it lacks
-- something.
abbrev pub waits_for : ℕ → ℕ → Job → ℕ → Bool
waits_for begin stop j lack = (nat_le j.release begin && nat_le stop j.end) && nat_lt 0 lack

-- Which of the listed jobs wait for that frame, by what each lacks.
abbrev pub waits_at : List Job → List ℕ → ℕ → ℕ → ℕ → Bool
waits_at jobs lacks begin stop i = waits_for begin stop (job_at jobs i) (slice_index lacks i)

-- The list holds just the jobs that wait, each once: whatever each of them is weighed as, both come to
-- the same.
abbrev pub Holds : List Job → (ℕ → Bool) → List Waiting → Type 0
Holds jobs waits held =
    (weight : Waiting → ℕ) → sum_by weight held ≡ Sum (length jobs) (λ i. cond (waits i) (weight (waiting_of (job_at jobs i))) 0)

-- How many of the first n jobs lack something.
abbrev pub lacking : ℕ → List ℕ → ℕ
lacking n lacks = Sum n (λ i. cond (nat_lt 0 (slice_index lacks i)) 1 0)
