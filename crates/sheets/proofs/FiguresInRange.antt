use Rattle.std.proofs.Common.{◌≡◌, ℕ, zero, suc, ◌+◌, ◌<◌, ◌≤◌, true, false, cond, not, ◌&&◌, List, [], ◌∷◌, ◌++◌, map, length, get_or, take, drop, is_some, Some, None, Option, refl, subst, ⊎_elim, arith}
use Rattle.std.specs.Prelude.{All}
use Rattle.std.proofs.lemmas.List.Elements.{All-from_get_or, All-map}
use Rattle.std.proofs.lemmas.Bool.{cases_lt}
use Rattle.std.proofs.lemmas.Bool.Decides.{nat_tests}
use Rattle.books.specs.Questions.{Question, Refused, ask, first_no, list_questions, range_questions}
use Rattle.books.proofs.FirstNo.{all_yes}
use Rattle.planning.specs.declared.job.Figures.{Figures}
use Rattle.sheets.specs.Entries.{Layout, Task, ask_number, entry_of_class, class_of, class_task, figures_from, high_of, is_class, list_layout, low_of, number_questions, periods_in, entry_of_range, range_layout, range_task, value_at}
use Rattle.sheets.specs.Lines.{field_at, fields_of, lines_of, name_in}
use Rattle.sheets.specs.Numerals.{is_number, value}
use Rattle.sheets.specs.Sheets.{fault_within, figures_in, is_a_name, is_taken, line_fault, line_questions, on_line, or_else, sheet_fault, tasks_of, whole_fault}

-- A cost and a deadline from 1 to 200,000.
abbrev pub InRange : Figures → Type 0
InRange f = (1 ≤ f.cost) × (f.cost ≤ 200000) × (1 ≤ f.deadline) × (f.deadline ≤ 200000)

-- An entry whose questions are all answered yes tells a task with figures in range.
abbrev Tells : Layout → Type 0
Tells layout = (fields : List (List ℕ)) (count : ℕ) → first_no (layout.entry fields count) ≡ None → InRange (layout.task fields).figures

number_in_range : (bytes : List ℕ) → is_number bytes ≡ true → (1 ≤ value bytes) × (value bytes ≤ 200000)
number_in_range bytes h = (grind (arith, nat_tests), grind (arith, nat_tests))

-- Two fields next to each other that are numbers are figures in range.
figures_read : (fields : List (List ℕ)) (number : ℕ) (rest : List Question)
    → first_no (ask_number fields number ∷ ask_number fields (number + 1) ∷ rest) ≡ None → InRange (figures_from fields number)
figures_read fields number rest h =
    let first = all_yes (ask_number fields number) (ask_number fields (number + 1) ∷ rest) h in
    let second = all_yes (ask_number fields (number + 1)) rest first.1 in
    let cost = number_in_range (field_at fields number) first.0 in
    let deadline = number_in_range (field_at fields (number + 1)) second.0 in
    (cost.0, cost.1, deadline.0, deadline.1)

range_tells : (fields : List (List ℕ)) (count : ℕ) → first_no (entry_of_range fields count) ≡ None → InRange (range_task fields).figures
range_tells fields count h =
    let rest = range_questions (value_at fields 3) (value_at fields 4) count in
    let figures = ask_number fields 5 ∷ ask_number fields 6 ∷ rest in
    let high = (all_yes (ask_number fields 3) (ask_number fields 4 ∷ figures) h).1 in
    figures_read fields 5 rest (all_yes (ask_number fields 4) figures high).1

class_tells : (fields : List (List ℕ)) (count : ℕ) → first_no (entry_of_class fields count) ≡ None → InRange (class_task fields).figures
class_tells fields count h =
    let class = class_of (field_at fields 3) in
    let rest = range_questions (low_of class) (high_of class) count in
    figures_read fields 4 rest (all_yes (ask 16 3 (is_some class)) (ask_number fields 4 ∷ ask_number fields 5 ∷ rest) h).1

ranges_tell : Tells range_layout
ranges_tell fields count h =
    (elim (is_class (field_at fields 1)) as (λ b. first_no (cond b (entry_of_class fields count) (entry_of_range fields count)) ≡ None → InRange (cond b (class_task fields) (range_task fields)).figures) [ true ↦ class_tells fields count | false ↦ range_tells fields count ]) h

lists_tell : Tells list_layout
lists_tell fields count h = figures_read fields 3 (number_questions 5 (drop 4 fields) ++ list_questions (periods_in fields) count) h

-- Where neither of two refusals is due, the first is not and the second is not.
neither : (first second : Option Refused) → or_else first second ≡ None → (first ≡ None) × (second ≡ None)
neither None second h = (refl, h)
neither (Some x) second h = cc

off_line : (line : ℕ) (refused : Option Refused) → on_line line refused ≡ None → refused ≡ None
off_line line None h = refl
off_line line (Some x) h = cc

-- Where the first n lines pass, each of them does.
each_passes : (layout : Layout) (lines : List (List ℕ)) (n k : ℕ) → k < n → fault_within layout lines n ≡ None → line_fault layout lines k ≡ None
each_passes layout lines zero k below h = absurd (omega arith)
each_passes layout lines (suc n) k below h =
    let both = neither (fault_within layout lines n) (line_fault layout lines n) h in
    ⊎_elim
    (λ (before : k < n). each_passes layout lines n k before both.0)
    (λ (last : n ≤ k). let same : n ≡ k = omega arith in subst (λ line. line_fault layout lines line ≡ None) same both.1)
    (cases_lt k n)

-- A line that passes tells a task with figures in range.
line_in_range : (layout : Layout) (lines : List (List ℕ)) (k : ℕ) → Tells layout → line_fault layout lines k ≡ None → InRange (layout.task (fields_of (get_or lines k []))).figures
line_in_range layout lines k tell h =
    let names = map name_in (take k lines) in
    let fields = fields_of (get_or lines k []) in
    let entry = layout.entry fields (length names) in
    let name = ask 15 2 (is_a_name (field_at fields 2) && not (is_taken (field_at fields 2) names)) in
    let count = ask 14 0 (layout.is_count (field_at fields 1) (length fields)) in
    let word = all_yes (ask 13 1 (layout.is_word (field_at fields 1))) (count ∷ name ∷ entry) (off_line (k + 1) (first_no (line_questions layout names fields)) h) in
    tell fields (length names) (all_yes name entry (all_yes count (name ∷ entry) word.1).1).1

-- A sheet that is not refused tells only tasks with figures in range.
sheet_in_range : (layout : Layout) (sheet : List ℕ) → Tells layout → sheet_fault layout sheet ≡ None → All InRange (figures_in (tasks_of layout sheet))
sheet_in_range layout sheet tell stands =
    let lines = lines_of sheet in
    let passed = (neither (whole_fault sheet) (fault_within layout lines (length lines)) stands).1 in
    All-map InRange (λ (task : Task). task.figures) (tasks_of layout sheet)
    (All-map (λ (task : Task). InRange task.figures) (λ line. layout.task (fields_of line)) lines
    (All-from_get_or (λ line. InRange (layout.task (fields_of line)).figures) lines []
    (λ k below. line_in_range layout lines k tell (each_passes layout lines (length lines) k below passed))))

pub ranges_in_range : (sheet : List ℕ) → sheet_fault range_layout sheet ≡ None → All InRange (figures_in (tasks_of range_layout sheet))
ranges_in_range sheet = sheet_in_range range_layout sheet ranges_tell

pub lists_in_range : (sheet : List ℕ) → sheet_fault list_layout sheet ≡ None → All InRange (figures_in (tasks_of list_layout sheet))
lists_in_range sheet = sheet_in_range list_layout sheet lists_tell
