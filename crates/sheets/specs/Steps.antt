use Rattle.std.specs.Prelude.{◌≡◌, ℕ, ◌+◌, ◌<◌, ◌≤◌, true, false, not, ◌&&◌, List, ◌∷◌, ◌++◌, length, drop, Some, None, Ok, Err, Option, Result}
use Rattle.arrayvec.specs.ArrayVec.{ArrayVec}
use Rattle.books.specs.Meaning.{Meaning}
use Rattle.books.specs.Questions.{Question, Refused, first_no, range_questions}
use Rattle.books.specs.Sets.{Adds, is_within}
use Rattle.books.specs.declared.fault.EntryFault.{EntryFault}
use Rattle.planning.specs.declared.job.Figures.{Figures}
use Rattle.sheets.specs.Entries.{Task, ask_number, figures_from, number_questions, periods_in}
use Rattle.sheets.specs.Lines.{field_at, lines_of}
use Rattle.sheets.specs.Numerals.{is_number, value}
use Rattle.sheets.specs.Sheets.{is_a_name, is_taken, on_line, whole_fault}
use Rattle.sheets.specs.declared.fault.FieldFault.{FieldFault}
use Rattle.sheets.specs.declared.fault.FieldFault.TheVariants.{Entry, NameRefused}
use Rattle.sheets.specs.declared.fault.SheetFault.{SheetFault}
use Rattle.sheets.specs.declared.range_sheet.RangeEntry.{RangeEntry}
use Rattle.sheets.specs.Reads.{field_refused, sheet_refused}

-- What an answer tells: the refusal, if it is one.
abbrev pub told : {A : Type 0} → Result A FieldFault → Option Refused
told (Ok value) = None
told (Err fault) = Some (field_refused fault)

-- The number that bytes write.
abbrev pub NumberRead : List ℕ → Option ℕ → Type 0
NumberRead bytes None = is_number bytes ≡ false
NumberRead bytes (Some n) = (is_number bytes ≡ true) × (n ≡ value bytes) × (1 ≤ n) × (n ≤ 200000)

-- A task entered into a book: the book means one task more, there was room for it, and these are its figures.
pub record Entered (m n : Meaning) (task : Task) (figures : Figures) : Type 0 where
  pub added : Adds m n task.allows
  pub room : m.count < 16
  pub figured : figures ≡ task.figures

-- A book's answer to the task of a line: the same, but for the line in a refusal.
abbrev pub Placed : ℕ → Result (Unit {0}) EntryFault → Result (Unit {0}) FieldFault → Type 0
Placed line added (Ok done) = added ≡ Ok done
Placed line added (Err fault) = (entry : EntryFault) × (added ≡ Err entry) × (fault ≡ Entry line entry)

-- A sheet as a whole: how many lines it has, or its refusal.
abbrev pub WholeRead : List ℕ → Result ℕ SheetFault → Type 0
WholeRead sheet (Ok lines) = (whole_fault sheet ≡ None) × (lines ≡ length (lines_of sheet)) × (lines ≤ 4096)
WholeRead sheet (Err fault) = whole_fault sheet ≡ Some (sheet_refused fault)

-- A name read on a line, where these names came before it: question 15, and its refusal.
abbrev pub NameRead : List (List ℕ) → List ℕ → ℕ → Result (Unit {0}) FieldFault → Type 0
NameRead names name line (Ok done) = (is_a_name name && not (is_taken name names)) ≡ true
NameRead names name line (Err fault) = ((is_a_name name && not (is_taken name names)) ≡ false) × (fault ≡ NameRefused line)

-- Low, high and figures read on a line with these questions: they are the task's, and only what the book of ranges
-- asks is left; or a refusal on the line.
abbrev pub RangeRead : (ℕ → List Question) → Task → ℕ → Result RangeEntry FieldFault → Type 0
RangeRead entry task line (Ok e) =
    ((count : ℕ) → first_no (entry count) ≡ first_no (range_questions e.low e.high count))
    × (task.allows ≡ is_within e.low e.high)
    × (task.figures ≡ e.figures)
RangeRead entry task line (Err fault) = (count : ℕ) → on_line line (first_no (entry count)) ≡ Some (field_refused fault)

-- Cost and deadline read in two fields next to each other, the first of which has the given number: both are numbers;
-- or a refusal on the line, whatever is asked behind them.
abbrev pub FiguresRead : List (List ℕ) → ℕ → ℕ → Result Figures FieldFault → Type 0
FiguresRead fields first line (Ok figures) =
    (is_number (field_at fields first) ≡ true) × (is_number (field_at fields (first + 1)) ≡ true) × (figures ≡ figures_from fields first)
FiguresRead fields first line (Err fault) =
    (rest : List Question) → on_line line (first_no (ask_number fields first ∷ ask_number fields (first + 1) ∷ rest)) ≡ Some (field_refused fault)

-- The periods read on a line: they are numbers, and only the questions that follow are left; or a refusal on the line.
abbrev pub PeriodsRead : List (List ℕ) → ℕ → Result (ArrayVec ℕ) FieldFault → Type 0
PeriodsRead fields line (Ok periods) =
    (periods.items ≡ periods_in fields)
    × ((rest : List Question) → first_no (number_questions 5 (drop 4 fields) ++ rest) ≡ first_no rest)
PeriodsRead fields line (Err fault) =
    (rest : List Question) → on_line line (first_no (number_questions 5 (drop 4 fields) ++ rest)) ≡ Some (field_refused fault)
