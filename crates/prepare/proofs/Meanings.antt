use Rattle.std.proofs.Common.{◌≡◌, ℕ, List, ◌++◌, IfOk as made, Ok, Err, ap, ◌∙◌, subst}
use Rattle.books.specs.Meaning.{Meaning}
use Rattle.books.specs.Sets.{beside, gridded, lists_of, ranges_of}
use Rattle.books.specs.declared.grid.Grid.{Grid}
use Rattle.books.specs.declared.list_book.ListBook.{ListBook}
use Rattle.books.specs.declared.range_book.RangeBook.{RangeBook}
use Rattle.books.specs.declared.side_by_side.SideBySide.{SideBySide}
use Rattle.run.specs.Account.{Account, empty}
use Rattle.run.specs.Agrees.{Agrees, planned}
use Rattle.run.specs.declared.call.Answer.{Answer}
use Rattle.run.specs.declared.call.Answer.TheVariants.{Refused}
use Rattle.run.specs.declared.planner.Planner.{Planner}
use Rattle.run.specs.declared.planner.calls.Granted.{Granted}
use Rattle.sheets.specs.Entries.{list_layout, range_layout}
use Rattle.sheets.specs.Reads.{Holds, figures_held}
use Rattle.sheets.specs.Sheets.{figures_in, meaning_of, tasks_of}
use Rattle.sheets.specs.declared.tasks.Tasks.{Tasks}
use Rattle.prepare.specs.Charges.{Carried, PlanMade, calls_for}
use Rattle.prepare.specs.Prepared.{BothStand, FaultDue, Ready, SheetsCarried, book_means, calls_of, sheets_meaning}
use Rattle.prepare.proofs.ChargesPass.{charges_pass}
use Rattle.prepare.specs.declared.fault.PrepareFault.{PrepareFault}
use Rattle.prepare.specs.declared.fault.PrepareFault.TheVariants.{InPlanner, InSheet}

-- The same books mean the same, side by side on a grid.
pub same_books : (step : ℕ) (a b : RangeBook) (c d : ListBook) → a ≡ b → c ≡ d
    → gridded step (beside (ranges_of a) (lists_of c)) ≡ gridded step (beside (ranges_of b) (lists_of d))
same_books step a b c d first second =
    ap (λ book. gridded step (beside (ranges_of book) (lists_of c))) first ∙ ap (λ book. gridded step (beside (ranges_of b) (lists_of book))) second

-- Books that hold the tasks of two sheets mean, side by side on a grid, what the sheets mean.
books_mean_sheets : (ranges lists : List ℕ) (step : ℕ) (first : Tasks RangeBook) (second : Tasks ListBook)
    → Holds ranges_of first (tasks_of range_layout ranges) → Holds lists_of second (tasks_of list_layout lists)
    → gridded step (beside (ranges_of first.book) (lists_of second.book)) ≡ sheets_meaning ranges lists step
books_mean_sheets ranges lists step first second holds also =
    ap (λ m. gridded step (beside m (lists_of second.book))) holds.meaning ∙ ap (λ m. gridded step (beside (meaning_of (tasks_of range_layout ranges)) m)) also.meaning

-- The calls for the figures held are those of the sheets.
calls_of_sheets : (ranges lists : List ℕ) (ceiling : ℕ) (first : Tasks RangeBook) (second : Tasks ListBook)
    → Holds ranges_of first (tasks_of range_layout ranges) → Holds lists_of second (tasks_of list_layout lists)
    → calls_for (figures_held first ++ figures_held second) ceiling ≡ calls_of ranges lists ceiling
calls_of_sheets ranges lists ceiling first second holds also =
    ap (λ figures. calls_for (figures ++ figures_held second) ceiling) holds.figures ∙ ap (λ figures. calls_for (figures_in (tasks_of range_layout ranges) ++ figures) ceiling) also.figures

-- Calls carried out on the books of two sheets, that hold their tasks, are those of the sheets.
sheets_carried : (ranges lists : List ℕ) (step ceiling : ℕ) (first : Tasks RangeBook) (second : Tasks ListBook) (m : Meaning) (answer : Answer) (after : Account)
    → BothStand ranges lists → Holds ranges_of first (tasks_of range_layout ranges) → Holds lists_of second (tasks_of list_layout lists)
    → m ≡ gridded step (beside (ranges_of first.book) (lists_of second.book))
    → Carried m empty (calls_for (figures_held first ++ figures_held second) ceiling) answer after
    → SheetsCarried ranges lists step ceiling answer after
sheets_carried ranges lists step ceiling first second m answer after stand holds also meaning carried =
    let on = subst (λ m. Carried m empty (calls_of ranges lists ceiling) answer after) (meaning ∙ books_mean_sheets ranges lists step first second holds also)
    (subst (λ calls. Carried m empty calls answer after) (calls_of_sheets ranges lists ceiling first second holds also) carried) in
    record { read = stand; carried = on; last = charges_pass ranges lists step ceiling answer after stand on }

-- A planner that is planned on the books of two sheets is the one prepared.
pub planned_is_ready : (ranges lists : List ℕ) (step ceiling : ℕ) (granted : Granted) (first : Tasks RangeBook) (second : Tasks ListBook) (p q : Planner (Grid (SideBySide RangeBook ListBook)))
    → BothStand ranges lists → Holds ranges_of first (tasks_of range_layout ranges) → Holds lists_of second (tasks_of list_layout lists)
    → Agrees book_means p empty → book_means p.book ≡ gridded step (beside (ranges_of first.book) (lists_of second.book))
    → PlanMade book_means p q (figures_held first ++ figures_held second) ceiling (Ok granted)
    → Ready ranges lists step ceiling granted q
planned_is_ready ranges lists step ceiling granted first second p q stand holds also agrees meaning made =
    let last = made.1 empty agrees in
    record {
      meaning = ap book_means made.0 ∙ meaning ∙ books_mean_sheets ranges lists step first second holds also;
      account = last.0;
      carried = sheets_carried ranges lists step ceiling first second (book_means p.book) (planned (Ok granted)) last.0 stand holds also meaning last.1;
      agrees = last.3;
      stands = last.2;
    }

-- A fault of a planner on the books of two sheets is the one that is due.
pub fault_is_due : (ranges lists : List ℕ) (step ceiling : ℕ) (fault : PrepareFault) (first : Tasks RangeBook) (second : Tasks ListBook) (p q : Planner (Grid (SideBySide RangeBook ListBook)))
    → BothStand ranges lists → Holds ranges_of first (tasks_of range_layout ranges) → Holds lists_of second (tasks_of list_layout lists)
    → Agrees book_means p empty → book_means p.book ≡ gridded step (beside (ranges_of first.book) (lists_of second.book))
    → PlanMade book_means p q (figures_held first ++ figures_held second) ceiling (Err fault)
    → FaultDue ranges lists step ceiling fault
fault_is_due ranges lists step ceiling (InSheet sheet fault) first second p q stand holds also agrees meaning made = absurd made
fault_is_due ranges lists step ceiling (InPlanner refusal) first second p q stand holds also agrees meaning made =
    let last = made empty agrees in
    (last.0, sheets_carried ranges lists step ceiling first second (book_means p.book) (Refused refusal) last.0 stand holds also meaning last.1)
