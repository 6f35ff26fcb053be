use Rattle.std.specs.Prelude.{◌≡◌, ℕ, ◌-◌, ◌≤◌, Bool, true, false, cond, ◌&&◌, ◌||◌, List, [], ◌++◌, length, is_some, Some, None, Ok, Err, Option, Result, nat_le, slice_index_or}
use Rattle.std.specs.List.{slice_get}
use Rattle.books.specs.Meaning.{Meaning}
use Rattle.books.specs.Questions.{Refused, refusal}
use Rattle.planning.specs.declared.job.Figures.{Figures}
use Rattle.sheets.specs.Entries.{Layout, Task, class_of, list_layout, range_layout}
use Rattle.sheets.specs.Lines.{field_at, fields_of, lines_of}
use Rattle.sheets.specs.Numerals.{is_number, value}
use Rattle.sheets.specs.Sheets.{figures_in, meaning_of, names_of, sheet_fault, tasks_of}
use Rattle.sheets.specs.declared.fault.FieldFault.{FieldFault}
use Rattle.sheets.specs.declared.fault.FieldFault.TheVariants.{UnknownWord, FieldCount, NameRefused, Unreadable, Entry}
use Rattle.sheets.specs.declared.fault.SheetFault.{SheetFault}
use Rattle.sheets.specs.declared.fault.SheetFault.TheVariants.{TooLong, LineUnended, AtField}
use Rattle.sheets.specs.declared.field.Field.{Field}
use Rattle.sheets.specs.declared.field.Field.TheVariants.{Word, Missing}
use Rattle.sheets.specs.declared.tasks.Tasks.{Tasks}

-- What each fault of a field says: its question's number, its line and its field.
abbrev pub field_refused : FieldFault → Refused
field_refused (UnknownWord line) = record { number = 13; line = line; field = 1 }
field_refused (FieldCount line) = record { number = 14; line = line; field = 0 }
field_refused (NameRefused line) = record { number = 15; line = line; field = 2 }
field_refused (Unreadable line field) = record { number = 16; line = line; field = field }
field_refused (Entry line fault) = record { number = (refusal fault).number; line = line; field = (refusal fault).field }

-- What each fault of a sheet says.
abbrev pub sheet_refused : SheetFault → Refused
sheet_refused TooLong = record { number = 12; line = 0; field = 0 }
sheet_refused (LineUnended line) = record { number = 12; line = line; field = 0 }
sheet_refused (AtField fault) = field_refused fault

-- The bytes of a field; none where it is missing.
abbrev pub bytes_of : Field → List ℕ
bytes_of (Word bytes line field) = bytes.now
bytes_of (Missing line field) = []

-- The line of a field's place.
abbrev pub line_of : Field → ℕ
line_of (Word bytes line field) = line
line_of (Missing line field) = line

-- The number of a field in its line.
abbrev pub field_of : Field → ℕ
field_of (Word bytes line field) = field
field_of (Missing line field) = field

-- Is there a field at the place?
abbrev pub is_there : Field → Bool
is_there (Word bytes line field) = true
is_there (Missing line field) = false

-- A field read as a number: its value, or question 16 at its place.
abbrev pub FieldNumber : Field → Result ℕ FieldFault → Type 0
FieldNumber f (Ok n) = (is_number (bytes_of f) ≡ true) × (n ≡ value (bytes_of f)) × (1 ≤ n) × (n ≤ 200000)
FieldNumber f (Err fault) = (is_number (bytes_of f) ≡ false) × (fault ≡ Unreadable (line_of f) (field_of f))

-- A field read as a class letter: its range, or question 16 at its place.
abbrev pub ClassRead : Field → Result (ℕ × ℕ) FieldFault → Type 0
ClassRead f (Ok range) = class_of (bytes_of f) ≡ Some range
ClassRead f (Err fault) = (class_of (bytes_of f) ≡ None) × (fault ≡ Unreadable (line_of f) (field_of f))

-- The field of a sheet at a place: a part of the sheet where there is such a line and field, and missing where not.
abbrev pub FieldIs : List ℕ → ℕ → ℕ → Field → Type 0
FieldIs sheet line field f =
    (line_of f ≡ line) × (field_of f ≡ field)
    × (is_there f ≡ (nat_le 1 line && (nat_le line (length (lines_of sheet)) && (nat_le 1 field && nat_le field (length (fields_of (slice_index_or (lines_of sheet) (line - 1) [])))))))
    × (is_there f ≡ true → bytes_of f ≡ field_at (fields_of (slice_index_or (lines_of sheet) (line - 1) [])) field)

-- The figures of the tasks held.
abbrev pub figures_held : {B : Type 0} → Tasks B → List Figures
figures_held tasks = tasks.figures.items

-- The tasks held are these: the book means them, and the figures are theirs.
pub record Holds {B : Type 0} (means : B → Meaning) (held : Tasks B) (tasks : List Task) : Type 0 where
  pub meaning : means held.book ≡ meaning_of tasks
  pub counted : length (figures_held held) ≡ length tasks
  pub figures : figures_held held ≡ figures_in tasks

-- A sheet read: its tasks where no refusal is due, and else the refusal that is.
abbrev pub SheetRead : {B : Type 0} → (B → Meaning) → Layout → List ℕ → Result (Tasks B) SheetFault → Type 0
SheetRead means layout sheet (Ok held) = (sheet_fault layout sheet ≡ None) × Holds means held (tasks_of layout sheet)
SheetRead means layout sheet (Err fault) = sheet_fault layout sheet ≡ Some (sheet_refused fault)

-- The name of a task, the tasks of the range sheet before those of the list sheet; none where a sheet is refused or
-- the task is not there.
abbrev pub name_found : List ℕ → List ℕ → ℕ → Option (List ℕ)
name_found ranges lists task =
    cond (is_some (sheet_fault range_layout ranges) || is_some (sheet_fault list_layout lists)) None (slice_get (names_of ranges ++ names_of lists) task)
