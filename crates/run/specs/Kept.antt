use Rattle.std.specs.Prelude.{◌≡◌, ℕ, ◌+◌, ◌*◌, ◌/◌, ◌<◌, ◌≤◌, List, length, take, Some, None, Option, slice_index_or}
use Rattle.books.specs.Meaning.{Meaning}
use Rattle.planning.specs.declared.job.Job.{Job}
use Rattle.planning.specs.declared.job.Row.{Row}
use Rattle.planning.specs.Charges.{figures_at}
use Rattle.planning.specs.Hyperperiod.{Chosen}
use Rattle.planning.specs.Windows.{window_of}
use Rattle.run.specs.declared.event.Event.{Event}
use Rattle.run.specs.declared.event.Event.TheVariants.{Slice, FrameEnd}
use Rattle.run.specs.Account.{Account, Standing}
use Rattle.run.specs.Events.{Begins, frame_ends, run_events, total}
use Rattle.run.specs.Right.{TableOf}

-- These are the chosen periods of the plan that stands.
abbrev pub ChosenFor : Meaning → Standing → (ℕ → ℕ) → Type 0
ChosenFor m k period = (task : ℕ) → task < m.count → Chosen m k.hyperperiod task (period task)

-- The task has the job in the hyperperiod.
abbrev pub IsJob : Meaning → Standing → (ℕ → ℕ) → ℕ → ℕ → Type 0
IsJob m k period task job = (task < m.count) × (job < k.hyperperiod / period task)

-- The window of the job in the first repetition.
abbrev pub window_in : Standing → (ℕ → ℕ) → ℕ → ℕ → Job
window_in k period task job = window_of task (period task) (figures_at k.figures task) job

-- An event that comes after `ended` frame ends keeps to its window: a slice belongs to a job, and came in a frame,
-- from ended times the size to one frame later, between that job's release and its end; job j of repetition r
-- lies r times the hyperperiod later than in the first.
abbrev pub InWindow : Meaning → Standing → (ℕ → ℕ) → ℕ → Event → Type 0
InWindow m k period ended (Slice repetition frame task job length) =
    IsJob m k period task job
    × (repetition * k.hyperperiod + (window_in k period task job).release ≤ ended * k.size)
    × ((ended + 1) * k.size ≤ repetition * k.hyperperiod + (window_in k period task job).end)
InWindow m k period ended (FrameEnd repetition frame) = Unit {0}

-- What the events of a plan keep. Once the frame ends reach a job's end, its slices total exactly its cost; every
-- slice came in its job's window; and the events are a beginning of the table repeated.
pub record Delivers (m : Meaning) (k : Standing) (period : ℕ → ℕ) (events : List Event) : Type 0 where
  pub whole : (r task job : ℕ) → r < 1000000 → IsJob m k period task job → r * k.hyperperiod + (window_in k period task job).end ≤ frame_ends events * k.size → total r task job events ≡ (figures_at k.figures task).cost
  pub within : (n : ℕ) (d : Event) → n < length events → InWindow m k period (frame_ends (take n events)) (slice_index_or events n d)
  pub repeated : (rows : List Row) × TableOf m k rows × Begins events (run_events rows (k.hyperperiod / k.size) 1000000)

-- What holds of the account at all times: where a plan stands, the events keep to it.
abbrev pub KeptBy : Meaning → Option Standing → List Event → Type 0
KeptBy m None events = Unit {0}
KeptBy m (Some k) events = (period : ℕ → ℕ) → ChosenFor m k period → Delivers m k period events

abbrev pub Kept : Meaning → Account → Type 0
Kept m a = KeptBy m a.plan a.events
