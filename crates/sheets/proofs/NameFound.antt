use Rattle.std.proofs.Common.{◌≡◌, ℕ, List, ◌++◌, map, length, take, Some, Ok, Err, Result, ap, ◌∙◌, subst}
use Rattle.std.specs.List.{slice_get}
use Rattle.std.specs.Result.{result_ok}
use Rattle.std.proofs.lemmas.List.{length-map, map-append}
use Rattle.books.specs.Meaning.{Meaning}
use Rattle.books.specs.Sets.{lists_of, ranges_of}
use Rattle.books.specs.declared.list_book.ListBook.{ListBook}
use Rattle.books.specs.declared.range_book.RangeBook.{RangeBook}
use Rattle.sheets.specs.Entries.{Layout, list_layout, range_layout}
use Rattle.sheets.specs.Lines.{fields_of, lines_of, name_in}
use Rattle.sheets.specs.Reads.{SheetRead, figures_held, name_found}
use Rattle.sheets.specs.Sheets.{tasks_of}
use Rattle.sheets.specs.Text.{parts}
use Rattle.sheets.specs.declared.fault.SheetFault.{SheetFault}
use Rattle.sheets.specs.declared.tasks.Tasks.{Tasks}
use Rattle.sheets.proofs.SheetLines.{length_lines}

-- A sheet has as many lines as tasks.
lines_held : (layout : Layout) (sheet : List ℕ) (n : ℕ) → n ≡ length (tasks_of layout sheet) → take n (parts 10 sheet) ≡ lines_of sheet
lines_held layout sheet n counted =
    ap (λ k. take k (parts 10 sheet)) (counted ∙ length-map (lines_of sheet) (λ line. layout.task (fields_of line)) ∙ length_lines sheet)

-- Where both sheets are read, the name of a task is that on the line at its place, the lines of the first sheet before
-- those of the second.
pub name_of_both : (ranges lists : List ℕ) (first : Tasks RangeBook) (second : Tasks ListBook) (task : ℕ) → SheetRead ranges_of range_layout ranges (Ok first) → SheetRead lists_of list_layout lists (Ok second)
    → slice_get (map name_in (take (length (figures_held first)) (parts 10 ranges) ++ take (length (figures_held second)) (parts 10 lists))) task ≡ name_found ranges lists task
name_of_both ranges lists first second task r l =
    let lines = lines_held range_layout ranges (length (figures_held first)) r.1.counted in
    let more = lines_held list_layout lists (length (figures_held second)) l.1.counted in
    rw (lines, more, r.0, l.0) (ap (λ names. slice_get names task) (map-append name_in (lines_of ranges) (lines_of lists)))

-- Tasks that came out of a reading were read.
pub reading_held : {B : Type 0} (means : B → Meaning) (layout : Layout) (sheet : List ℕ) (reading : Result (Tasks B) SheetFault) (held : Tasks B) → result_ok reading ≡ Some held → SheetRead means layout sheet reading → SheetRead means layout sheet (Ok held)
reading_held means layout sheet (Ok tasks) held same read =
    let is : tasks ≡ held = cc in
    subst (λ t. SheetRead means layout sheet (Ok t)) is read
reading_held means layout sheet (Err fault) held same read = cc
