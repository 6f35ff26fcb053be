use Rattle.std.specs.Prelude.{ℕ, ◌+◌, Bool, cond, ◌&&◌, List, [], ◌∷◌, ◌++◌, length, Some, None, Ok, Err, Option, Result, nat_le, nat_lt}
use Rattle.books.specs.Periods.{is_a_period}
use Rattle.books.specs.declared.fault.EntryFault.{EntryFault}
use Rattle.books.specs.declared.fault.EntryFault.TheVariants.{PeriodCount, NumberOutOfRange, NotRising, TooManyTasks}

-- A refusal: its number, and the line and field at fault.
pub record Refused : Type 0 where
  pub number : ℕ
  pub line : ℕ
  pub field : ℕ

-- A question put to an entry: the number and field of the refusal if it is answered no, and the answer.
pub record Question : Type 0 where
  pub number : ℕ
  pub field : ℕ
  pub yes : Bool

-- The question of that number and field, with its answer.
abbrev pub ask : ℕ → ℕ → Bool → Question
ask n f y = record { number = n; field = f; yes = y }

-- What a no to the question is: an entry in numbers has no line.
abbrev pub refused_by : Question → Refused
refused_by q = record { number = q.number; line = 0; field = q.field }

-- The questions are put in order, and the first no is the refusal; none is due where all are yes.
abbrev pub first_no : List Question → Option Refused
first_no [] = None
first_no (q ∷ qs) = cond q.yes (first_no qs) (Some (refused_by q))

-- Of a range: its low is a period, its high is a period, the low is not above the high, and there is
-- room for a task.
abbrev pub range_questions : ℕ → ℕ → ℕ → List Question
range_questions low high count =
    ask 16 3 (is_a_period low) ∷ ask 16 4 (is_a_period high) ∷ ask 17 4 (nat_le low high) ∷ ask 18 0 (nat_lt count 16) ∷ []

-- One question to each number of a list, the first of which stands in the given field: it is a period.
abbrev pub period_questions : ℕ → List ℕ → List Question
period_questions field [] = []
period_questions field (p ∷ ps) = ask 16 field (is_a_period p) ∷ period_questions (field + 1) ps

-- One question to each number that follows a given period, the first of which stands in the given
-- field: it is above the one before it.
abbrev pub above_questions : ℕ → ℕ → List ℕ → List Question
above_questions field before [] = []
above_questions field before (p ∷ ps) = ask 17 field (nat_lt before p) ∷ above_questions (field + 1) p ps

-- The same question to each number of a list but the first, which stands in the given field.
abbrev pub rising_questions : ℕ → List ℕ → List Question
rising_questions field [] = []
rising_questions field (p ∷ ps) = above_questions (field + 1) p ps

-- Of a list, whose periods stand in the fields from 5 on: it has one to eight, each is a period, each
-- but the first is above the one before it, and there is room for a task.
abbrev pub list_questions : List ℕ → ℕ → List Question
list_questions ps count =
    ask 14 0 (nat_le 1 (length ps) && nat_le (length ps) 8)
    ∷ (period_questions 5 ps ++ (rising_questions 5 ps ++ ask 18 0 (nat_lt count 16) ∷ []))

-- What each fault says.
abbrev pub refusal : EntryFault → Refused
refusal PeriodCount = record { number = 14; line = 0; field = 0 }
refusal (NumberOutOfRange f) = record { number = 16; line = 0; field = f }
refusal (NotRising f) = record { number = 17; line = 0; field = f }
refusal TooManyTasks = record { number = 18; line = 0; field = 0 }

-- What the answer to an addition says: the refusal, if it is one.
abbrev pub told : Result (Unit {0}) EntryFault → Option Refused
told (Ok done) = None
told (Err fault) = Some (refusal fault)
