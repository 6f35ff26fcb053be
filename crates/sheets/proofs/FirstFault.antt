use Rattle.std.proofs.Common.{◌≡◌, ℕ, zero, suc, ◌+◌, ◌-◌, ◌<◌, List, [], map, get_or, take, Some, None, ap, ◌∙◌, subst, add-one, arith}
use native.Mathlib.Numerals.{unary_clauses}
use Rattle.std.proofs.lemmas.List.{get_or-take, take-take}
use Rattle.books.specs.Questions.{Refused, first_no}
use Rattle.sheets.specs.Entries.{Layout}
use Rattle.sheets.specs.Lines.{fields_of, name_in}
use Rattle.sheets.specs.Sheets.{fault_within, line_fault, line_questions, on_line, or_else}

-- A refusal of the first lines is that of more lines too.
pub fault_stays : (layout : Layout) (lines : List (List ℕ)) (n more : ℕ) (x : Refused) → fault_within layout lines n ≡ Some x → fault_within layout lines (n + more) ≡ Some x
fault_stays layout lines n zero x h = simp unary_clauses h
fault_stays layout lines n (suc more) x h = simp (unary_clauses, fault_stays layout lines n more x h)

-- Where the lines before it pass, the refusal of a line is that of the sheet.
pub line_refused : (layout : Layout) (lines : List (List ℕ)) (n m : ℕ) (x : Refused) → fault_within layout lines n ≡ None → line_fault layout lines n ≡ Some x → n < m → fault_within layout lines m ≡ Some x
line_refused layout lines n m x passed refused below =
    let split : suc n + (m - suc n) ≡ m = omega arith in
    subst (λ k. fault_within layout lines k ≡ Some x) split
    (fault_stays layout lines (suc n) (m - suc n) x (ap (λ first. or_else first (line_fault layout lines n)) passed ∙ refused))

-- Where a line and those before it pass, the first lines pass with it.
pub line_passed : (layout : Layout) (lines : List (List ℕ)) (n : ℕ) → fault_within layout lines n ≡ None → line_fault layout lines n ≡ None → fault_within layout lines (n + 1) ≡ None
line_passed layout lines n passed next = rw add-one (ap (λ first. or_else first (line_fault layout lines n)) passed ∙ next)

-- The refusal of a line does not hang on the lines behind it.
pub fault_within_lem : (layout : Layout) (lines : List (List ℕ)) (n before : ℕ) → before < n → line_fault layout (take n lines) before ≡ line_fault layout lines before
fault_within_lem layout lines n before below =
    ap (λ earlier. on_line (before + 1) (first_no (line_questions layout (map name_in earlier) (fields_of (get_or (take n lines) before []))))) (take-take before n lines (omega arith))
    ∙ ap (λ line. on_line (before + 1) (first_no (line_questions layout (map name_in (take before lines)) (fields_of line)))) (get_or-take n lines before [] below)
