use Rattle.std.specs.Prelude.{◌≡◌, ℕ, ◌*◌, ◌/◌, ◌<◌, ◌≤◌, Bool, cond, ◌&&◌, List, [], ◌∷◌, ◌++◌, length, is_some, Some, None, Option, nat_le, nat_lt}
use Rattle.books.specs.Meaning.{Meaning}
use Rattle.planning.specs.declared.job.Figures.{Figures}
use Rattle.planning.specs.declared.job.Row.{Row}
use Rattle.planning.specs.Charges.{figures_at}
use Rattle.planning.specs.Hyperperiod.{Chosen}
use Rattle.planning.specs.Plans.{Prepared, PlanDue, book_jobs, jobs_in, row_in}
use Rattle.planning.specs.Rows.{GreedyRows}
use Rattle.planning.specs.Sizes.{LargestSize, frames_of}
use Rattle.planning.specs.Windows.{placed}
use Rattle.planning.specs.Work.{LeastWork}
use Rattle.run.specs.declared.call.Answer.{Answer}
use Rattle.run.specs.declared.call.Answer.TheVariants.{Charged, Planned, Rewound, Came, PeriodIs, RowIs, Refused}
use Rattle.run.specs.declared.call.Call.{Call}
use Rattle.run.specs.declared.call.Call.TheVariants.{Charge, Plan, Rewind, Next, Period, RowAt}
use Rattle.run.specs.declared.event.Event.{Event}
use Rattle.run.specs.declared.refusal.Refusal.TheVariants.{TaskOutOfRange, CostOutOfRange, DeadlineOutOfRange, NoPlan, Ended}
use Rattle.run.specs.Account.{Account, Standing}
use Rattle.run.specs.Events.{Begins, frame_ends, run_events}
use Rattle.run.specs.Refusals.{number, place}

-- A cost or a deadline is from 1 to 200,000.
abbrev pub is_figure : ℕ → Bool
is_figure n = nat_le 1 n && nat_le n 200000

-- The answer to a charge, by the questions in their order: is the task below the count and below 16; is the
-- cost, is the deadline from 1 to 200,000?
abbrev pub charge_answer : ℕ → ℕ → ℕ → ℕ → Answer
charge_answer count task cost deadline =
    cond (nat_lt task count && nat_lt task 16)
    (cond (is_figure cost) (cond (is_figure deadline) Charged (Refused (DeadlineOutOfRange task))) (Refused (CostOutOfRange task)))
    (Refused (TaskOutOfRange task))

-- A granted plan: the least hyperperiod and the chosen periods, which need no more work than any other choice;
-- the number of jobs; the largest permitted size that some table fills; and the number of the table's rows.
pub record PlanRight (m : Meaning) (figures : List (Option Figures)) (ceiling hyperperiod size jobs rows : ℕ) : Type 0 where
  pub period : ℕ → ℕ
  pub prepared : Prepared m figures ceiling hyperperiod period
  pub work : LeastWork m hyperperiod (figures_at figures) period
  pub counted : jobs ≡ jobs_in hyperperiod period m.count
  pub few : jobs ≤ 1024
  pub largest : LargestSize (placed (book_jobs m figures hyperperiod period)) hyperperiod size
  pub table : List Row
  pub greedy : GreedyRows (book_jobs m figures hyperperiod period) (frames_of hyperperiod size) table
  pub written : rows ≡ length table

-- The answer to a plan: granted where no refusal is due, and else the refusal that is, with number and place.
abbrev pub PlanAnswer : Meaning → List (Option Figures) → ℕ → Answer → Type 0
PlanAnswer m figures ceiling Charged = ⊥
PlanAnswer m figures ceiling (Planned granted) = PlanRight m figures ceiling granted.hyperperiod granted.frame_size granted.jobs granted.rows
PlanAnswer m figures ceiling Rewound = ⊥
PlanAnswer m figures ceiling (Came event) = ⊥
PlanAnswer m figures ceiling (PeriodIs period) = ⊥
PlanAnswer m figures ceiling (RowIs row) = ⊥
PlanAnswer m figures ceiling (Refused refusal) = PlanDue m figures ceiling (number refusal) (place refusal)

-- The rows are those of the table of the plan that stands, by the book's meaning and what was kept.
pub record TableOf (m : Meaning) (k : Standing) (rows : List Row) : Type 0 where
  pub period : ℕ → ℕ
  pub chosen : (task : ℕ) → task < m.count → Chosen m k.hyperperiod task (period task)
  pub greedy : GreedyRows (book_jobs m k.figures k.hyperperiod period) (frames_of k.hyperperiod k.size) rows

-- The event is the table's next one: with it, the events are a beginning of the table repeated.
abbrev pub ComesNext : Meaning → Standing → List Event → Event → Type 0
ComesNext m k events event =
    (rows : List Row) × TableOf m k rows × Begins (events ++ event ∷ []) (run_events rows (k.hyperperiod / k.size) 1000000)

-- The answer to next where a plan stands: the table's next event, or refusal 11 once 1,000,000 repetitions have
-- ended.
abbrev pub NextAnswer : Meaning → Standing → List Event → Answer → Type 0
NextAnswer m k events Charged = ⊥
NextAnswer m k events (Planned granted) = ⊥
NextAnswer m k events Rewound = ⊥
NextAnswer m k events (Came event) = (frame_ends events < 1000000 * (k.hyperperiod / k.size)) × ComesNext m k events event
NextAnswer m k events (PeriodIs period) = ⊥
NextAnswer m k events (RowIs row) = ⊥
NextAnswer m k events (Refused refusal) = (refusal ≡ Ended) × (frame_ends events ≡ 1000000 * (k.hyperperiod / k.size))

-- The answer to next: refusal 10 where no plan stands.
abbrev pub NextRight : Meaning → Option Standing → List Event → Answer → Type 0
NextRight m None events answer = answer ≡ Refused NoPlan
NextRight m (Some k) events answer = NextAnswer m k events answer

-- The chosen period of a task, read from the plan that stands; none without a plan or beyond the last task.
abbrev pub PeriodFound : Meaning → Option Standing → ℕ → Option ℕ → Type 0
PeriodFound m None task found = found ≡ None
PeriodFound m (Some k) task None = m.count ≤ task
PeriodFound m (Some k) task (Some period) = (task < m.count) × Chosen m k.hyperperiod task period

abbrev pub PeriodRight : Meaning → Option Standing → ℕ → Answer → Type 0
PeriodRight m plan task Charged = ⊥
PeriodRight m plan task (Planned granted) = ⊥
PeriodRight m plan task Rewound = ⊥
PeriodRight m plan task (Came event) = ⊥
PeriodRight m plan task (PeriodIs found) = PeriodFound m plan task found
PeriodRight m plan task (RowIs row) = ⊥
PeriodRight m plan task (Refused refusal) = ⊥

-- A row read from the plan that stands; none without a plan or beyond the last row.
abbrev pub RowRight : Meaning → Option Standing → ℕ → Answer → Type 0
RowRight m None index answer = answer ≡ RowIs None
RowRight m (Some k) index answer = (rows : List Row) × TableOf m k rows × (answer ≡ RowIs (row_in rows index))

-- The answer to a call is right, judged by the book's meaning and the account before the call.
abbrev pub Right : Meaning → Account → Call → Answer → Type 0
Right m a (Charge task cost deadline) answer = answer ≡ charge_answer m.count task cost deadline
Right m a (Plan ceiling) answer = PlanAnswer m a.figures ceiling answer
Right m a Rewind answer = answer ≡ cond (is_some a.plan) Rewound (Refused NoPlan)
Right m a Next answer = NextRight m a.plan a.events answer
Right m a (Period task) answer = PeriodRight m a.plan task answer
Right m a (RowAt index) answer = RowRight m a.plan index answer
