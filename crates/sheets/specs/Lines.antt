use Rattle.std.specs.Prelude.{ℕ, ◌-◌, List, [], map, length, take, slice_index_or}
use Rattle.sheets.specs.Text.{parts}

-- The lines of a sheet: what stands before each newline.
abbrev pub lines_of : List ℕ → List (List ℕ)
lines_of sheet = take (length (parts 10 sheet) - 1) (parts 10 sheet)

-- What stands behind the last newline: nothing, where the last line ends in one.
abbrev pub unended : List ℕ → List ℕ
unended sheet = slice_index_or (parts 10 sheet) (length (parts 10 sheet) - 1) []

-- The fields of a line: the parts between its commas.
abbrev pub fields_of : List ℕ → List (List ℕ)
fields_of line = parts 44 line

-- A field by its number, counted from 1; empty beyond the last.
abbrev pub field_at : List (List ℕ) → ℕ → List ℕ
field_at fields number = slice_index_or fields (number - 1) []

-- A line's word is its first field, and its name the second.
abbrev pub word_in : List ℕ → List ℕ
word_in line = field_at (fields_of line) 1

abbrev pub name_in : List ℕ → List ℕ
name_in line = field_at (fields_of line) 2

-- The names on the lines above the line of that number.
abbrev pub names_above : List ℕ → ℕ → List (List ℕ)
names_above sheet line = map name_in (take (line - 1) (parts 10 sheet))
