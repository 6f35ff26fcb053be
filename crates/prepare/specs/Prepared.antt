use Rattle.std.specs.Prelude.{◌≡◌, ℕ, ◌-◌, ◌<◌, ◌≤◌, List, ◌++◌, map, length, replicate, Some, None, Ok, Err, Option, Result}
use Rattle.books.specs.Meaning.{Meaning}
use Rattle.books.specs.Sets.{beside, beside_of, gridded, gridded_of, lists_of, ranges_of}
use Rattle.books.specs.declared.grid.Grid.{Grid}
use Rattle.books.specs.declared.list_book.ListBook.{ListBook}
use Rattle.books.specs.declared.range_book.RangeBook.{RangeBook}
use Rattle.books.specs.declared.side_by_side.SideBySide.{SideBySide}
use Rattle.planning.specs.declared.job.Figures.{Figures}
use Rattle.run.specs.Account.{Account, empty}
use Rattle.run.specs.Agrees.{Agrees, planned}
use Rattle.run.specs.Right.{PlanAnswer}
use Rattle.run.specs.declared.call.Answer.{Answer}
use Rattle.run.specs.declared.call.Answer.TheVariants.{Refused}
use Rattle.run.specs.declared.call.Call.{Call}
use Rattle.run.specs.declared.planner.Planner.{Planner}
use Rattle.run.specs.declared.planner.calls.Granted.{Granted}
use Rattle.run.specs.declared.refusal.Refusal.TheVariants.{TaskOutOfRange}
use Rattle.sheets.specs.Entries.{list_layout, range_layout}
use Rattle.sheets.specs.Reads.{Holds, sheet_refused}
use Rattle.sheets.specs.Sheets.{figures_in, meaning_of, sheet_fault, tasks_of}
use Rattle.sheets.specs.declared.fault.SheetFault.{SheetFault}
use Rattle.sheets.specs.declared.tasks.Tasks.{Tasks}
use Rattle.prepare.specs.Charges.{Carried, StandsAsGranted, calls_for}
use Rattle.prepare.specs.declared.fault.PrepareError.{PrepareError}
use Rattle.prepare.specs.declared.fault.PrepareError.TheVariants.{Fault, Memory}
use Rattle.prepare.specs.declared.fault.PrepareFault.{PrepareFault}
use Rattle.prepare.specs.declared.fault.PrepareFault.TheVariants.{InPlanner, InSheet}
use Rattle.prepare.specs.declared.fault.Sheet.{Sheet}
use Rattle.prepare.specs.declared.fault.Sheet.TheVariants.{Ranges, Lists}

-- What a range book and a list book mean, side by side on a grid.
abbrev pub book_means : Grid (SideBySide RangeBook ListBook) → Meaning
book_means = gridded_of (beside_of ranges_of lists_of)

-- What two sheets mean together: the tasks of the range sheet and then those of the list sheet, on a grid of the step.
abbrev pub sheets_meaning : List ℕ → List ℕ → ℕ → Meaning
sheets_meaning ranges lists step =
    gridded step (beside (meaning_of (tasks_of range_layout ranges)) (meaning_of (tasks_of list_layout lists)))

-- The figures of the tasks of two sheets, in their order.
abbrev pub figures_of_both : List ℕ → List ℕ → List Figures
figures_of_both ranges lists = figures_in (tasks_of range_layout ranges) ++ figures_in (tasks_of list_layout lists)

-- The calls that two sheets ask for: every task is charged with its figures, in order, and planned.
abbrev pub calls_of : List ℕ → List ℕ → ℕ → List Call
calls_of ranges lists ceiling = calls_for (figures_of_both ranges lists) ceiling

-- Neither sheet is refused.
abbrev pub BothStand : List ℕ → List ℕ → Type 0
BothStand ranges lists = (sheet_fault range_layout ranges ≡ None) × (sheet_fault list_layout lists ≡ None)

-- The refusal of a sheet that is due: that of the range sheet, which is read first, or else that of the list sheet.
abbrev pub SheetDue : List ℕ → List ℕ → Sheet → SheetFault → Type 0
SheetDue ranges lists Ranges fault = sheet_fault range_layout ranges ≡ Some (sheet_refused fault)
SheetDue ranges lists Lists fault = (sheet_fault range_layout ranges ≡ None) × (sheet_fault list_layout lists ≡ Some (sheet_refused fault))

-- The figures noted once every task is charged: those of the tasks, in their order, and none in the other places of 16.
abbrev pub noted_figures : List Figures → List (Option Figures)
noted_figures figures = map Some figures ++ replicate (16 - length figures) None

-- What the last answer is where every task is charged and planned: of more than 16 tasks the seventeenth is refused
-- with question 1 and place 16; else no charge is refused, and it is the plan's answer by the tasks' figures.
pub record LastAnswer (m : Meaning) (figures : List Figures) (ceiling : ℕ) (answer : Answer) : Type 0 where
  pub many : 16 < length figures → answer ≡ Refused (TaskOutOfRange 16)
  pub few : length figures ≤ 16 → PlanAnswer m (noted_figures figures) ceiling answer

-- Neither sheet is refused, and the calls that they ask for, carried out by the law of the planner, end with this answer
-- and this account.
pub record SheetsCarried (ranges lists : List ℕ) (step ceiling : ℕ) (answer : Answer) (after : Account) : Type 0 where
  pub read : BothStand ranges lists
  pub carried : Carried (sheets_meaning ranges lists step) empty (calls_of ranges lists ceiling) answer after
  pub last : LastAnswer (sheets_meaning ranges lists step) (figures_of_both ranges lists) ceiling answer

-- The fault that is due: of a sheet, or of the planner on which the calls are carried out.
abbrev pub FaultDue : List ℕ → List ℕ → ℕ → ℕ → PrepareFault → Type 0
FaultDue ranges lists step ceiling (InSheet sheet fault) = SheetDue ranges lists sheet fault
FaultDue ranges lists step ceiling (InPlanner refusal) = (after : Account) × SheetsCarried ranges lists step ceiling (Refused refusal) after

-- The planner that is prepared: its book means what the sheets mean, the calls on it end with this answer, it agrees
-- with the account of them, and the plan granted stands.
pub record Ready (ranges lists : List ℕ) (step ceiling : ℕ) (granted : Granted) (p : Planner (Grid (SideBySide RangeBook ListBook))) : Type 0 where
  pub meaning : book_means p.book ≡ sheets_meaning ranges lists step
  pub account : Account
  pub carried : SheetsCarried ranges lists step ceiling (planned (Ok granted)) account
  pub agrees : Agrees book_means p account
  pub stands : StandsAsGranted account granted

-- What preparing answers, and the caller's planner afterwards: the one prepared, or as it was where a fault is due.
abbrev pub Answered : List ℕ → List ℕ → ℕ → ℕ → Planner (Grid (SideBySide RangeBook ListBook)) → Planner (Grid (SideBySide RangeBook ListBook)) → Result Granted PrepareFault → Type 0
Answered ranges lists step ceiling before after (Ok granted) = Ready ranges lists step ceiling granted after
Answered ranges lists step ceiling before after (Err fault) = FaultDue ranges lists step ceiling fault × (after ≡ before)

-- Where memory is wanting there is no answer: neither sheet is refused, and the planner is as it was.
abbrev pub PrepareAnswer : List ℕ → List ℕ → ℕ → ℕ → Planner (Grid (SideBySide RangeBook ListBook)) → Planner (Grid (SideBySide RangeBook ListBook)) → Result Granted PrepareError → Type 0
PrepareAnswer ranges lists step ceiling before after (Ok granted) = Answered ranges lists step ceiling before after (Ok granted)
PrepareAnswer ranges lists step ceiling before after (Err (Fault fault)) = Answered ranges lists step ceiling before after (Err fault)
PrepareAnswer ranges lists step ceiling before after (Err (Memory wanting)) = BothStand ranges lists × (after ≡ before)

-- Both sheets read: their tasks, or the refusal that is due.
abbrev pub BothRead : List ℕ → List ℕ → Result (Tasks RangeBook × Tasks ListBook) PrepareFault → Type 0
BothRead ranges lists (Ok tasks) =
    BothStand ranges lists
    × Holds ranges_of tasks.0 (tasks_of range_layout ranges)
    × Holds lists_of tasks.1 (tasks_of list_layout lists)
BothRead ranges lists (Err (InSheet sheet fault)) = SheetDue ranges lists sheet fault
BothRead ranges lists (Err (InPlanner refusal)) = ⊥
