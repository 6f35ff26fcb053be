use Rattle.std.specs.Prelude.{ℕ, ◌<◌, ◌≤◌, Bool, List, [], ◌∷◌, map, All, Some, Ok, Option, slice_index}
use Rattle.books.specs.Meaning.{Meaning}
use Rattle.books.specs.Sets.{beside, gridded, is_among, is_within}
use Rattle.planning.specs.declared.job.Figures.{Figures}
use Rattle.planning.specs.Hyperperiod.{Chosen}
use Rattle.planning.specs.Plans.{PlanDue, Prepared, book_jobs, jobs_in}
use Rattle.planning.specs.Refusals.{SeekDue, Sought}
use Rattle.planning.specs.Sizes.{LargestSize}
use Rattle.planning.specs.Windows.{placed}
use Rattle.sheets.specs.Entries.{Task}
use Rattle.sheets.specs.Sheets.{figures_in, meaning_of}

-- What is found: a hyperperiod and each task's chosen period; these and the frame size of a plan; or a
-- refusal, of the search for the hyperperiod or of the plan, by its number.
pub data Found : Type 0 where
  Periods : ℕ → List ℕ → Found
  Size : ℕ → List ℕ → ℕ → Found
  SeekRefused : ℕ → Found
  PlanRefused : ℕ → Found

-- The period that the list has for a task.
abbrev pub period_at : List ℕ → ℕ → ℕ
period_at periods task = slice_index periods task

-- The rules find this in a book whose tasks have these costs and deadlines, under this ceiling.
abbrev pub Finds : Meaning → List (Option Figures) → ℕ → Found → Type 0
Finds m charges ceiling (Periods h periods) =
    Sought m ceiling (Ok h) × ((task : ℕ) → task < m.count → Chosen m h task (period_at periods task))
Finds m charges ceiling (Size h periods size) =
    Prepared m charges ceiling h (period_at periods)
    × (jobs_in h (period_at periods) m.count ≤ 1024)
    × LargestSize (placed (book_jobs m charges h (period_at periods))) h size
Finds m charges ceiling (SeekRefused number) = SeekDue m ceiling number 0
Finds m charges ceiling (PlanRefused number) = PlanDue m charges ceiling number 0

-- A worked figure: a book, the cost and deadline of each task, a ceiling, and what is found.
pub record Figure : Type 0 where
  pub book : Meaning
  pub charges : List (Option Figures)
  pub ceiling : ℕ
  pub found : Found

-- A figure holds where the rules find what it says.
abbrev pub Holds : Figure → Type 0
Holds figure = Finds figure.book figure.charges figure.ceiling figure.found

-- What is found in a book alone, with no costs and deadlines.
abbrev pub sought : Meaning → ℕ → Found → Figure
sought book ceiling found = record { book = book; charges = []; ceiling = ceiling; found = found }

-- What is found in a book of these tasks, with their costs and deadlines, under the highest ceiling.
abbrev pub planned : List Task → Found → Figure
planned tasks found = record { book = meaning_of tasks; charges = map Some (figures_in tasks); ceiling = 1000000; found = found }

-- A task with the periods that pass the test, a cost and a deadline.
abbrev pub task : (ℕ → Bool) → ℕ → ℕ → Task
task allows cost deadline = record { allows = allows; figures = record { cost = cost; deadline = deadline } }

-- A task with one period only, a cost and a deadline.
abbrev pub fixed : ℕ → ℕ → ℕ → Task
fixed period cost deadline = task (is_among (period ∷ [])) cost deadline

-- A task with any period from 10 to 12.
abbrev pub ten_to_twelve : Task
ten_to_twelve = task (is_within 10 12) 1 12

-- A task with any period from 7 to 9.
abbrev pub seven_to_nine : Task
seven_to_nine = task (is_within 7 9) 1 9

-- A task with one of the periods 4, 8 and 16.
abbrev pub four_eight_sixteen : Task
four_eight_sixteen = task (is_among (4 ∷ 8 ∷ 16 ∷ [])) 1 4

-- The worked figures. The last but one is refused since 257 frames are not permitted.
abbrev pub worked_figures : List Figure
worked_figures =
    sought (meaning_of (ten_to_twelve ∷ seven_to_nine ∷ [])) 1000000 (Periods 24 (12 ∷ 8 ∷ []))
    ∷ sought (meaning_of (ten_to_twelve ∷ seven_to_nine ∷ [])) 23 (SeekRefused 7)
    ∷ planned (ten_to_twelve ∷ seven_to_nine ∷ []) (Size 24 (12 ∷ 8 ∷ []) 8)
    ∷ sought (beside (meaning_of (four_eight_sixteen ∷ [])) (meaning_of (ten_to_twelve ∷ []))) 1000000 (Periods 12 (4 ∷ 12 ∷ []))
    ∷ sought (gridded 5 (meaning_of (seven_to_nine ∷ []))) 1000000 (SeekRefused 7)
    ∷ planned (fixed 2 1 2 ∷ fixed 4 2 4 ∷ []) (Size 4 (2 ∷ 4 ∷ []) 2)
    ∷ planned (fixed 2 1 2 ∷ fixed 3 2 3 ∷ []) (PlanRefused 9)
    ∷ planned (fixed 4 3 3 ∷ []) (Size 4 (4 ∷ []) 1)
    ∷ planned (fixed 4 3 2 ∷ []) (PlanRefused 9)
    ∷ planned (fixed 257 1 256 ∷ []) (PlanRefused 9)
    ∷ planned (fixed 256 1 255 ∷ []) (Size 256 (256 ∷ []) 128)
    ∷ []

-- Each of the worked figures holds.
abbrev pub WorkedFigures : Type 0
WorkedFigures = All Holds worked_figures
