use Rattle.std.proofs.Common.{◌≡◌, ℕ, ◌+◌, List, [], ◌∷◌, ◌++◌, codes, refl, ap}
use Rattle.planning.specs.declared.job.Row.{Row}
use Rattle.printer.specs.Text.{line_text, lines_text, slice_lines, slice_numbers}

-- The lines of rows, which do not tell their places.
pub rows_lined : (place : ℕ) (rows : List Row) → lines_text (codes "slice") (λ _ row. slice_numbers row) place rows ≡ slice_lines rows
rows_lined place [] = refl
rows_lined place (row ∷ rows) = ap (λ behind. line_text (codes "slice") (slice_numbers row) ++ behind) (rows_lined (place + 1) rows)
