use Rattle.std.specs.Prelude.{ℕ, zero, suc, ◌+◌, List, [], ◌∷◌, ◌++◌, length, vec_items, codes, decimal}
use Rattle.planning.specs.declared.job.Row.{Row}
use Rattle.planning.specs.declared.plan.Plan.{Plan}
use Rattle.planning.specs.Plans.{period_in, tasks_in}

-- Each number after a comma, in decimal digits.
abbrev pub numbers_text : List ℕ → List ℕ
numbers_text [] = []
numbers_text (n ∷ ns) = (44 ∷ decimal n) ++ numbers_text ns

-- A line: a word, each number after a comma, and a newline. The line of the word `period` and the numbers
-- 0 and 4 is `period,0,4`.
abbrev pub line_text : List ℕ → List ℕ → List ℕ
line_text word numbers = word ++ (numbers_text numbers ++ 10 ∷ [])

-- The line of a plan: its hyperperiod, its frame size, the numbers of jobs and of rows.
abbrev pub plan_line : ℕ → ℕ → ℕ → ℕ → List ℕ
plan_line hyperperiod size jobs rows = line_text (codes "plan") (hyperperiod ∷ size ∷ jobs ∷ rows ∷ [])

-- A line of the word for each item of a list, with the numbers that the item has at its place; the first place is the
-- given one.
abbrev pub lines_text : {T : Type 0} → List ℕ → (ℕ → T → List ℕ) → ℕ → List T → List ℕ
lines_text word numbers place [] = []
lines_text word numbers place (item ∷ items) = line_text word (numbers place item) ++ lines_text word numbers (place + 1) items

-- A line for each period, the first of which is that of the given task.
abbrev pub period_lines : ℕ → List ℕ → List ℕ
period_lines task [] = []
period_lines task (period ∷ periods) = line_text (codes "period") (task ∷ period ∷ []) ++ period_lines (task + 1) periods

-- A row's line has its frame, its task, its job and its length.
abbrev pub slice_numbers : Row → List ℕ
slice_numbers row = row.frame ∷ row.task ∷ row.job ∷ row.length ∷ []

-- A line for each row of the table.
abbrev pub slice_lines : List Row → List ℕ
slice_lines [] = []
slice_lines (row ∷ rows) = line_text (codes "slice") (slice_numbers row) ++ slice_lines rows

-- The lines of a plan: its own, with these numbers; a line for each task's period, from task 0 on; and a line for each
-- row.
abbrev pub lines_of : List ℕ → List ℕ → List Row → List ℕ
lines_of numbers periods rows = line_text (codes "plan") numbers ++ (period_lines 0 periods ++ slice_lines rows)

-- The text of a plan: its line, with the number of the slice lines that follow; a line for each task's period,
-- from task 0 on; and a line for each row.
abbrev pub plan_text : ℕ → ℕ → ℕ → List ℕ → List Row → List ℕ
plan_text hyperperiod size jobs periods rows =
    plan_line hyperperiod size jobs (length rows) ++ (period_lines 0 periods ++ slice_lines rows)

-- The periods of the first n tasks, from task 0 on.
abbrev pub periods_to : ℕ → (ℕ → ℕ) → List ℕ
periods_to zero period = []
periods_to (suc n) period = periods_to n period ++ period n ∷ []

-- The text of a finished plan.
abbrev pub text_of : Plan → List ℕ
text_of plan =
    plan_text plan.hyperperiod plan.frame_size plan.jobs (periods_to (tasks_in plan) (period_in plan)) (vec_items plan.rows)

-- The line of a refusal: the number of its question, the sheet, the line and the field.
abbrev pub refused_line : ℕ → ℕ → ℕ → ℕ → List ℕ
refused_line number sheet line field = line_text (codes "refused") (number ∷ sheet ∷ line ∷ field ∷ [])
