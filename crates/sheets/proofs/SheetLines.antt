use Rattle.std.proofs.Common.{◌≡◌, ℕ, ◌+◌, ◌-◌, ◌<◌, List, [], length, get_or, arith}
use Rattle.std.proofs.lemmas.List.{get_or-take, length-take-le}
use Rattle.sheets.specs.Lines.{lines_of}
use Rattle.sheets.specs.Text.{parts}

-- A sheet has one line fewer than it has parts.
pub length_lines : (sheet : List ℕ) → length (lines_of sheet) ≡ length (parts 10 sheet) - 1
length_lines sheet = length-take-le (length (parts 10 sheet) - 1) (parts 10 sheet) (omega arith)

-- Each line is the part at its place.
pub line_at : (sheet : List ℕ) (k : ℕ) → k + 1 < length (parts 10 sheet) → get_or (lines_of sheet) k [] ≡ get_or (parts 10 sheet) k []
line_at sheet k there = get_or-take (length (parts 10 sheet) - 1) (parts 10 sheet) k [] (omega arith)
