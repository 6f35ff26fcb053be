use Rattle.std.proofs.Common.{◌≡◌, ℕ, ◌+◌, ◌-◌, ◌<◌, ◌≤◌, List, [], ◌∷◌, ◌++◌, length, get_or, take, Some, None, sym, ap, ◌∙◌, arith}
use Rattle.std.proofs.lemmas.List.{length-map, length_push, map_more, map_push, take_all}
use Rattle.books.specs.Meaning.{Meaning}
use Rattle.books.specs.Questions.{Refused}
use Rattle.planning.specs.declared.job.Figures.{Figures}
use Rattle.sheets.specs.Entries.{Layout, Task}
use Rattle.sheets.specs.Lines.{fields_of, lines_of}
use Rattle.sheets.specs.Reads.{Holds, figures_held}
use Rattle.sheets.specs.Steps.{Entered}
use Rattle.sheets.specs.Sheets.{fault_within, figures_in, line_fault, meaning_of, or_else, sheet_fault, tasks_in, tasks_of, whole_fault}
use Rattle.sheets.specs.Text.{parts}
use Rattle.sheets.specs.declared.tasks.Tasks.{Tasks}
use Rattle.sheets.proofs.BookOfTasks.{one_task_more}
use Rattle.sheets.proofs.FirstFault.{fault_within_lem, line_passed, line_refused}
use Rattle.sheets.proofs.SheetLines.{length_lines, line_at}

-- The first n lines pass, the book means their tasks, and the figures are theirs.
pub record ReadSoFar (layout : Layout) (sheet : List ℕ) (n : ℕ) (book : Meaning) (figures : List Figures) : Type 0 where
  pub passed : fault_within layout (lines_of sheet) n ≡ None
  pub meaning : book ≡ meaning_of (tasks_in layout (take n (lines_of sheet)))
  pub figured : figures ≡ figures_in (tasks_in layout (take n (lines_of sheet)))
  pub counted : book.count ≡ n
  pub held : length figures ≡ n
  pub few : n ≤ 16

-- The refusal of a line is that of the part at its place.
line_fault_lem : (layout : Layout) (sheet : List ℕ) (n : ℕ) → n < length (lines_of sheet) → line_fault layout (lines_of sheet) n ≡ line_fault layout (parts 10 sheet) n
line_fault_lem layout sheet n below = fault_within_lem layout (parts 10 sheet) (length (parts 10 sheet) - 1) n (omega (arith, length_lines sheet))

-- The tasks of one line more.
tasks_more : (layout : Layout) (sheet : List ℕ) (n : ℕ) → n < length (lines_of sheet) → tasks_in layout (take n (lines_of sheet)) ++ layout.task (fields_of (get_or (parts 10 sheet) n [])) ∷ [] ≡ tasks_in layout (take (n + 1) (lines_of sheet))
tasks_more layout sheet n below =
    ap (λ line. tasks_in layout (take n (lines_of sheet)) ++ layout.task (fields_of line) ∷ []) (sym (line_at sheet n (omega (arith, length_lines sheet))))
    ∙ sym (map_more (λ line. layout.task (fields_of line)) (lines_of sheet) n [] below)

-- One line more.
pub line_more : (layout : Layout) (sheet : List ℕ) (n : ℕ) (book after : Meaning) (figures : List Figures) (f : Figures) → n < length (lines_of sheet) → ReadSoFar layout sheet n book figures → None ≡ line_fault layout (parts 10 sheet) n → Entered book after (layout.task (fields_of (get_or (parts 10 sheet) n []))) f → ReadSoFar layout sheet (n + 1) after (figures ++ f ∷ [])
line_more layout sheet n book after figures f below so passes entered =
    let tasks : List Task = tasks_in layout (take n (lines_of sheet)) in
    let task : Task = layout.task (fields_of (get_or (parts 10 sheet) n [])) in
    let more = tasks_more layout sheet n below in
    record {
      passed = line_passed layout (lines_of sheet) n so.passed (line_fault_lem layout sheet n below ∙ sym passes);
      meaning = one_task_more book after tasks task so.meaning entered.added ∙ ap meaning_of more;
      figured =
          ap (λ front. front ++ f ∷ []) so.figured
          ∙ ap (λ (last : Figures). figures_in tasks ++ last ∷ []) entered.figured
          ∙ sym (map_push (λ (t : Task). t.figures) tasks task)
          ∙ ap figures_in more;
      counted = entered.added.counted ∙ ap (λ k. k + 1) so.counted;
      held = length_push figures f ∙ ap (λ k. k + 1) so.held;
      few = omega (arith, entered.room, so.counted);
    }

-- The first line that is refused is the refusal of the sheet.
pub refused_at : (layout : Layout) (sheet : List ℕ) (n : ℕ) (book : Meaning) (figures : List Figures) (x : Refused) → whole_fault sheet ≡ None → n < length (lines_of sheet) → ReadSoFar layout sheet n book figures → Some x ≡ line_fault layout (parts 10 sheet) n → sheet_fault layout sheet ≡ Some x
refused_at layout sheet n book figures x whole below so refused =
    let all : ℕ = length (lines_of sheet) in
    ap (λ first. or_else first (fault_within layout (lines_of sheet) all)) whole
    ∙ line_refused layout (lines_of sheet) n all x so.passed (line_fault_lem layout sheet n below ∙ sym refused) below

-- After the last line, the sheet has no refusal, and the tasks are its tasks.
pub all_read : {B : Type 0} (means : B → Meaning) (layout : Layout) (sheet : List ℕ) (held : Tasks B) → whole_fault sheet ≡ None → ReadSoFar layout sheet (length (lines_of sheet)) (means held.book) (figures_held held) → (sheet_fault layout sheet ≡ None) × Holds means held (tasks_of layout sheet)
all_read means layout sheet held whole so =
    let all = take_all (length (lines_of sheet)) (lines_of sheet) (omega arith) in (
      ap (λ first. or_else first (fault_within layout (lines_of sheet) (length (lines_of sheet)))) whole ∙ so.passed,
      record {
        meaning = so.meaning ∙ ap (λ lines. meaning_of (tasks_in layout lines)) all;
        counted = so.held ∙ sym (length-map (lines_of sheet) (λ line. layout.task (fields_of line)));
        figures = so.figured ∙ ap (λ lines. figures_in (tasks_in layout lines)) all;
      },
    )
