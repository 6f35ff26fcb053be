use Rattle.std.proofs.Common.{◌≡◌, ℕ, Some, Err, Option, Result, sym, ap, ◌∙◌}
use Rattle.books.specs.Questions.{Refused, told}
use Rattle.books.specs.declared.fault.EntryFault.{EntryFault}
use Rattle.sheets.specs.Reads.{field_refused}
use Rattle.sheets.specs.Sheets.{on_line}
use Rattle.sheets.specs.Steps.{Placed}
use Rattle.sheets.specs.declared.fault.FieldFault.{FieldFault}

-- A refusal of a book is the one asked for, on the line.
pub refusal_placed : (line : ℕ) (added : Result (Unit {0}) EntryFault) (fault : FieldFault) (asked : Option Refused) → Placed line added (Err fault) → told added ≡ asked → Some (field_refused fault) ≡ on_line line asked
refusal_placed line added fault asked placed answer = ap (λ f. Some (field_refused f)) placed.2 ∙ ap (λ a. on_line line (told a)) (sym placed.1) ∙ ap (on_line line) answer
