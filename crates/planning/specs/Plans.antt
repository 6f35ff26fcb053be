use Rattle.std.specs.Prelude.{◌≡◌, ℕ, ◌/◌, ◌<◌, ◌≤◌, cond, ◌⊎◌, List, [], length, Some, None, Ok, Err, vec_items, Option, Result, nat_lt, slice_index, slice_index_or}
use Rattle.arrayvec.specs.ArrayVec.{array_vec_len}
use Rattle.books.specs.Meaning.{Meaning}
use Rattle.planning.specs.declared.job.Figures.{Figures}
use Rattle.planning.specs.declared.job.Job.{Job}
use Rattle.planning.specs.declared.job.Row.{Row}
use Rattle.planning.specs.declared.plan.Plan.{Plan}
use Rattle.planning.specs.declared.refusal.Refusal.{Refusal}
use Rattle.planning.specs.Charges.{figures_at, Charged, LowestUncharged}
use Rattle.planning.specs.Hyperperiod.{LeastHyperperiod, NoneServes, Chosen}
use Rattle.planning.specs.Placing.{Sum}
use Rattle.planning.specs.Refusals.{CeilingInRange, CountInRange, RangeDue, number, place}
use Rattle.planning.specs.Rows.{GreedyRows}
use Rattle.planning.specs.Sizes.{EverySizeOverloaded, LargestSize, frames_of}
use Rattle.planning.specs.Windows.{jobs_of, placed}
use Rattle.planning.specs.Work.{LeastWork}

-- How many jobs the first n tasks have in the hyperperiod.
abbrev pub jobs_in : ℕ → (ℕ → ℕ) → ℕ → ℕ
jobs_in hyperperiod period n = Sum n (λ task. hyperperiod / period task)

-- The jobs that a book's tasks have in the hyperperiod, with their windows.
abbrev pub book_jobs : Meaning → List (Option Figures) → ℕ → (ℕ → ℕ) → List Job
book_jobs m figures hyperperiod period = jobs_of hyperperiod period (figures_at figures) m.count

-- Questions 4 to 7 got a yes: the ceiling and the count are in range, every task has figures, and this is
-- the least hyperperiod and these are the chosen periods.
pub record Prepared (m : Meaning) (figures : List (Option Figures)) (ceiling hyperperiod : ℕ) (period : ℕ → ℕ) : Type 0 where
  pub ceiling_fits : CeilingInRange ceiling
  pub count_fits : CountInRange m
  pub charged : Charged figures m.count
  pub least : LeastHyperperiod m ceiling hyperperiod
  pub chosen : (task : ℕ) → task < m.count → Chosen m hyperperiod task (period task)

-- Question 8 got a no: there are more than 1,024 jobs in the hyperperiod.
pub record TooManyJobs (m : Meaning) (figures : List (Option Figures)) (ceiling : ℕ) : Type 0 where
  pub hyperperiod : ℕ
  pub period : ℕ → ℕ
  pub prepared : Prepared m figures ceiling hyperperiod period
  pub many : 1024 < jobs_in hyperperiod period m.count

-- Question 9 got a no: at each permitted size some run of frames has fewer ticks than its confined jobs cost.
pub record EverySizeFails (m : Meaning) (figures : List (Option Figures)) (ceiling : ℕ) : Type 0 where
  pub hyperperiod : ℕ
  pub period : ℕ → ℕ
  pub prepared : Prepared m figures ceiling hyperperiod period
  pub few : jobs_in hyperperiod period m.count ≤ 1024
  pub overloaded : EverySizeOverloaded (placed (book_jobs m figures hyperperiod period)) hyperperiod

-- The refusal that is due when a plan is made, with its number and place: the questions are put in their
-- order, and the first no ends the call.
abbrev pub PlanDue : Meaning → List (Option Figures) → ℕ → ℕ → ℕ → Type 0
PlanDue m figures ceiling n at_place =
    RangeDue m ceiling n at_place
    ⊎ (((n ≡ 6) × CeilingInRange ceiling × CountInRange m × LowestUncharged figures m.count at_place)
    ⊎ (((n ≡ 7) × (at_place ≡ 0) × CeilingInRange ceiling × CountInRange m × Charged figures m.count × NoneServes m ceiling)
    ⊎ (((n ≡ 8) × (at_place ≡ 0) × TooManyJobs m figures ceiling) ⊎ ((n ≡ 9) × (at_place ≡ 0) × EverySizeFails m figures ceiling))))

-- What is sought for a plan: the least hyperperiod where questions 4 to 7 get a yes, and else the refusal that
-- is due.
abbrev pub Sought : Meaning → List (Option Figures) → ℕ → Result ℕ Refusal → Type 0
Sought m figures ceiling (Ok h) =
    CeilingInRange ceiling × CountInRange m × Charged figures m.count × LeastHyperperiod m ceiling h
Sought m figures ceiling (Err refusal) = PlanDue m figures ceiling (number refusal) (place refusal)

-- How many tasks a plan has a period for.
abbrev pub tasks_in : Plan → ℕ
tasks_in plan = array_vec_len plan.periods

-- The period that a plan has for a task.
abbrev pub period_in : Plan → ℕ → ℕ
period_in plan task = slice_index plan.periods.items task

-- The row at a place of a list of rows; none beyond the last.
abbrev pub row_in : List Row → ℕ → Option Row
row_in rows index = cond (nat_lt index (length rows)) (Some (slice_index_or rows index (record { frame = 0; task = 0; job = 0; length = 0 }))) None

-- A plan of nothing: no tasks, no jobs and no rows.
pub record Nothing (plan : Plan) : Type 0 where
  pub hyperperiod : plan.hyperperiod ≡ 0
  pub size : plan.frame_size ≡ 0
  pub frames : plan.frames ≡ 0
  pub tasks : tasks_in plan ≡ 0
  pub jobs : plan.jobs ≡ 0
  pub rows : vec_items plan.rows ≡ []

-- The plan that is granted: the least hyperperiod, the chosen periods, which need no more work than any
-- other choice, the number of jobs, the largest permitted size that some table fills, and the rows of the
-- greedy table.
pub record Planned (m : Meaning) (figures : List (Option Figures)) (ceiling : ℕ) (plan : Plan) : Type 0 where
  pub tasks : tasks_in plan ≡ m.count
  pub prepared : Prepared m figures ceiling plan.hyperperiod (period_in plan)
  pub work : LeastWork m plan.hyperperiod (figures_at figures) (period_in plan)
  pub jobs : plan.jobs ≡ jobs_in plan.hyperperiod (period_in plan) m.count
  pub few : plan.jobs ≤ 1024
  pub size : LargestSize (placed (book_jobs m figures plan.hyperperiod (period_in plan))) plan.hyperperiod plan.frame_size
  pub frames : plan.frames ≡ plan.hyperperiod / plan.frame_size
  pub rows : GreedyRows (book_jobs m figures plan.hyperperiod (period_in plan)) (frames_of plan.hyperperiod plan.frame_size) (vec_items plan.rows)

-- What the planning call answers, and the plan afterwards: the plan that the rules define where no refusal
-- is due; else the refusal that is, with its number and place, and the plan as it was.
abbrev pub PlanAnswered : Meaning → List (Option Figures) → ℕ → Plan → Plan → Result (Unit {0}) Refusal → Type 0
PlanAnswered m figures ceiling before after (Ok done) = Planned m figures ceiling after
PlanAnswered m figures ceiling before after (Err refusal) = PlanDue m figures ceiling (number refusal) (place refusal) × (after ≡ before)
