use Rattle.std.specs.Prelude.{ℕ, zero, suc, ◌+◌, Bool, false, cond, not, ◌&&◌, ◌||◌, List, [], ◌∷◌, map, length, take, Some, None, Option, ◌==◌, nat_le, slice_index_or}
use Rattle.std.specs.List.{list_all, list_any}
use Rattle.std.specs.Str.{bytes_eq}
use Rattle.books.specs.Meaning.{Meaning}
use Rattle.books.specs.Questions.{Question, Refused, ask, first_no}
use Rattle.planning.specs.declared.job.Figures.{Figures}
use Rattle.sheets.specs.Entries.{Layout, Task}
use Rattle.sheets.specs.Lines.{field_at, fields_of, lines_of, name_in, unended}

-- A byte of a name: a to z, 0 to 9, or a hyphen.
abbrev pub is_a_name_byte : ℕ → Bool
is_a_name_byte byte = (nat_le 97 byte && nat_le byte 122) || ((nat_le 48 byte && nat_le byte 57) || byte == 45)

-- Each byte is one of a name.
abbrev pub are_name_bytes : List ℕ → Bool
are_name_bytes bytes = list_all is_a_name_byte bytes

-- A name is 1 to 16 such bytes.
abbrev pub is_a_name : List ℕ → Bool
is_a_name bytes = nat_le 1 (length bytes) && (nat_le (length bytes) 16 && are_name_bytes bytes)

-- A name is one of those that came before.
abbrev pub is_taken : List ℕ → List (List ℕ) → Bool
is_taken name names = list_any (λ earlier. bytes_eq name earlier) names

-- The questions put to the fields of a line, in their order, where these names came before it, one for each line.
abbrev pub line_questions : Layout → List (List ℕ) → List (List ℕ) → List Question
line_questions layout names fields =
    ask 13 1 (layout.is_word (field_at fields 1))
    ∷ ask 14 0 (layout.is_count (field_at fields 1) (length fields))
    ∷ ask 15 2 (is_a_name (field_at fields 2) && not (is_taken (field_at fields 2) names))
    ∷ layout.entry fields (length names)

-- A refusal on a line.
abbrev pub on_line : ℕ → Option Refused → Option Refused
on_line line None = None
on_line line (Some refused) = Some (record { number = refused.number; line = line; field = refused.field })

-- The refusal of the line that has so many before it: the first no to its questions.
abbrev pub line_fault : Layout → List (List ℕ) → ℕ → Option Refused
line_fault layout lines before =
    on_line (before + 1) (first_no (line_questions layout (map name_in (take before lines)) (fields_of (slice_index_or lines before []))))

-- The first refusal, or else the second.
abbrev pub or_else : Option Refused → Option Refused → Option Refused
or_else None second = second
or_else (Some refused) second = Some refused

-- The refusal of the first n lines: that of the earliest which has one.
abbrev pub fault_within : Layout → List (List ℕ) → ℕ → Option Refused
fault_within layout lines zero = None
fault_within layout lines (suc n) = or_else (fault_within layout lines n) (line_fault layout lines n)

-- The refusal of the sheet as a whole: it has more than 4,096 bytes, or its last line does not end in a newline.
abbrev pub whole_fault : List ℕ → Option Refused
whole_fault sheet =
    cond (nat_le (length sheet) 4096)
    (cond (length (unended sheet) == 0) None (Some (record { number = 12; line = length (lines_of sheet) + 1; field = 0 })))
    (Some (record { number = 12; line = 0; field = 0 }))

-- The refusal that a sheet gets, if any: as a whole, and then line by line from the top.
abbrev pub sheet_fault : Layout → List ℕ → Option Refused
sheet_fault layout sheet = or_else (whole_fault sheet) (fault_within layout (lines_of sheet) (length (lines_of sheet)))

-- The tasks that lines tell.
abbrev pub tasks_in : Layout → List (List ℕ) → List Task
tasks_in layout lines = map (λ line. layout.task (fields_of line)) lines

-- The tasks of a sheet, one for each line.
abbrev pub tasks_of : Layout → List ℕ → List Task
tasks_of layout sheet = tasks_in layout (lines_of sheet)

-- The names of a sheet's tasks.
abbrev pub names_of : List ℕ → List (List ℕ)
names_of sheet = map name_in (lines_of sheet)

-- Which periods a task of the list may have; none beyond the last task.
abbrev pub allows_at : List Task → ℕ → ℕ → Bool
allows_at [] task period = false
allows_at (first ∷ rest) zero period = first.allows period
allows_at (first ∷ rest) (suc task) period = allows_at rest task period

-- What a book of these tasks means.
abbrev pub meaning_of : List Task → Meaning
meaning_of tasks = record { count = length tasks; allowed = allows_at tasks }

-- The figures of the tasks, in their order.
abbrev pub figures_in : List Task → List Figures
figures_in tasks = map (λ task. task.figures) tasks
