use Rattle.std.proofs.Common.{◌≡◌, ℕ, ◌+◌, ◌<◌, ◌≤◌, true, List, length, get_or, None, sym, ap, ◌∙◌, subst, arith}
use Rattle.std.proofs.lemmas.List.{get_or-take}
use Rattle.books.specs.Periods.{is_a_period, periods_of, Lawful}
use Rattle.books.specs.Questions.{first_no, period_questions, rising_questions}
use Rattle.books.specs.declared.list_book.PeriodRow.{PeriodRow}
use Rattle.books.proofs.QuestionsPassed.{periods_passed, rising_passed}

-- A row that holds a list keeps what the questions on the list have shown.
module _ (row : PeriodRow) (ps : List ℕ) (same : periods_of row ≡ ps) (long : row.len ≡ length ps) where
  read : (k : ℕ) → k < row.len → get_or row.periods k 0 ≡ get_or ps k 0
  read k below = sym (get_or-take row.len row.periods k 0 below) ∙ ap (λ xs. get_or xs k 0) same

  pub row_lawful : 1 ≤ length ps → length ps ≤ 8 → first_no (period_questions 5 ps) ≡ None → first_no (rising_questions 5 ps) ≡ None → Lawful row
  row_lawful some few bounded rising = record {
    counted = (omega arith, omega arith);
    bounded = λ k below. subst (λ n. is_a_period n ≡ true) (sym (read k below)) (periods_passed 5 ps bounded k (omega arith));
    rising = λ k below. omega (arith, read k (omega arith), read (k + 1) below, rising_passed 5 ps rising k (omega arith));
  }
