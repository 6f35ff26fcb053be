use Rattle.std.specs.Prelude.{ℕ, ◌+◌, Bool, cond, ◌&&◌, ◌||◌, List, [], ◌∷◌, ◌++◌, map, drop, is_some, Some, None, codes, Option, ◌==◌, nat_le}
use Rattle.std.specs.Str.{bytes_eq}
use Rattle.books.specs.Questions.{Question, ask, list_questions, range_questions}
use Rattle.books.specs.Sets.{is_among, is_within}
use Rattle.planning.specs.declared.job.Figures.{Figures}
use Rattle.sheets.specs.Lines.{field_at}
use Rattle.sheets.specs.Numerals.{is_number, value}

-- What a line says of a task: which periods it may have, and its figures.
pub record Task : Type 0 where
  pub allows : ℕ → Bool
  pub figures : Figures

-- How the lines of a kind of sheet read: which words a line may begin with, how many fields are right behind a word,
-- which questions are put to the fields behind the name where so many tasks came before, and which task they tell.
pub record Layout : Type 0 where
  pub is_word : List ℕ → Bool
  pub is_count : List ℕ → ℕ → Bool
  pub entry : List (List ℕ) → ℕ → List Question
  pub task : List (List ℕ) → Task

-- The low and the high that a class letter stands for: P 4 to 5, B 8 to 10, C 10 to 12, R 20 to 30, D 40 to 50, and
-- L 100 to 120.
abbrev pub range_of_class : ℕ → Option (ℕ × ℕ)
range_of_class letter =
    cond (letter == 80) (Some (4, 5))
    (cond (letter == 66) (Some (8, 10))
    (cond (letter == 67) (Some (10, 12))
    (cond (letter == 82) (Some (20, 30))
    (cond (letter == 68) (Some (40, 50))
    (cond (letter == 76) (Some (100, 120)) None)))))

-- The range of the class that a field names by one letter.
abbrev pub class_of : List ℕ → Option (ℕ × ℕ)
class_of [] = None
class_of (letter ∷ []) = range_of_class letter
class_of (letter ∷ other ∷ rest) = None

abbrev pub low_of : Option (ℕ × ℕ) → ℕ
low_of None = 0
low_of (Some range) = range.0

abbrev pub high_of : Option (ℕ × ℕ) → ℕ
high_of None = 0
high_of (Some range) = range.1

-- The value of a field that is a number.
abbrev pub value_at : List (List ℕ) → ℕ → ℕ
value_at fields number = value (field_at fields number)

-- Is this field a number?
abbrev pub ask_number : List (List ℕ) → ℕ → Question
ask_number fields number = ask 16 number (is_number (field_at fields number))

-- One question to each field, the first of which has the given number: is it a number?
abbrev pub number_questions : ℕ → List (List ℕ) → List Question
number_questions number [] = []
number_questions number (field ∷ fields) = ask 16 number (is_number field) ∷ number_questions (number + 1) fields

-- Cost and deadline stand in two fields next to each other.
abbrev pub figures_from : List (List ℕ) → ℕ → Figures
figures_from fields number = record { cost = value_at fields number; deadline = value_at fields (number + 1) }

-- `range,NAME,LOW,HIGH,COST,DEADLINE`: four numbers, and then what the book of ranges asks of low and high.
abbrev pub entry_of_range : List (List ℕ) → ℕ → List Question
entry_of_range fields count =
    ask_number fields 3 ∷ ask_number fields 4 ∷ ask_number fields 5 ∷ ask_number fields 6
    ∷ range_questions (value_at fields 3) (value_at fields 4) count

abbrev pub range_task : List (List ℕ) → Task
range_task fields = record { allows = is_within (value_at fields 3) (value_at fields 4); figures = figures_from fields 5 }

-- `class,NAME,LETTER,COST,DEADLINE`: a letter and two numbers, and then what the book of ranges asks of the class's
-- low and high.
abbrev pub entry_of_class : List (List ℕ) → ℕ → List Question
entry_of_class fields count =
    ask 16 3 (is_some (class_of (field_at fields 3))) ∷ ask_number fields 4 ∷ ask_number fields 5
    ∷ range_questions (low_of (class_of (field_at fields 3))) (high_of (class_of (field_at fields 3))) count

abbrev pub class_task : List (List ℕ) → Task
class_task fields = record {
  allows = is_within (low_of (class_of (field_at fields 3))) (high_of (class_of (field_at fields 3)));
  figures = figures_from fields 4;
}

-- `list,NAME,COST,DEADLINE,P1` with up to eight periods: a number in each field from 3 on, and then what the book of
-- lists asks of the periods.
abbrev pub periods_in : List (List ℕ) → List ℕ
periods_in fields = map value (drop 4 fields)

abbrev pub list_entry : List (List ℕ) → ℕ → List Question
list_entry fields count =
    ask_number fields 3 ∷ ask_number fields 4 ∷ (number_questions 5 (drop 4 fields) ++ list_questions (periods_in fields) count)

abbrev pub list_task : List (List ℕ) → Task
list_task fields = record { allows = is_among (periods_in fields); figures = figures_from fields 3 }

-- Does a line of the range sheet begin with the word of a class?
abbrev pub is_class : List ℕ → Bool
is_class word = bytes_eq word (codes "class")

-- The range sheet: 6 fields behind `range`, 5 behind `class`.
abbrev pub range_layout : Layout
range_layout = record {
  is_word = λ word. is_class word || bytes_eq word (codes "range");
  is_count = λ word count. (count == cond (is_class word) 5 6);
  entry = λ fields count. cond (is_class (field_at fields 1)) (entry_of_class fields count) (entry_of_range fields count);
  task = λ fields. cond (is_class (field_at fields 1)) (class_task fields) (range_task fields);
}

-- The list sheet: 5 to 12 fields behind `list`.
abbrev pub list_layout : Layout
list_layout = record {
  is_word = λ word. bytes_eq word (codes "list");
  is_count = λ word count. nat_le 5 count && nat_le count 12;
  entry = list_entry;
  task = list_task;
}
