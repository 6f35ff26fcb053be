use Rattle.std.proofs.Common.{◌≡◌, ℕ, suc, ◌<◌, ◌≤◌, true, eqb, leb, Option, List, [], ◌∷◌, length, get_or, Some, None, ⊎_elim, sym, refl, subst, add-one, arith}
use Rattle.std.specs.Prelude.{find}
use Rattle.std.proofs.lemmas.Bool.{cases_lt, cond-true, cond-false, eqb-true, eq-eqb, ne_eqb, le-leb, lt-leb, or_cases, or_left, or_right}
use Rattle.std.proofs.lemmas.Bool.Decides.{nat_tests}
use Rattle.std.proofs.lemmas.List.{get_or-take, length-take}
use Rattle.books.specs.Meaning.{LeastFrom}
use Rattle.books.specs.Periods.{Lawful, periods_of}
use Rattle.books.specs.Sets.{is_among}
use Rattle.books.specs.declared.list_book.PeriodRow.{PeriodRow}

-- Each number of the list but the first is above the one before it.
abbrev Rises : List ℕ → Type 0
Rises xs = (k : ℕ) → suc k < length xs → get_or xs k 0 < get_or xs (suc k) 0

-- In a rising list none is below the first.
first_lowest : (x : ℕ) (xs : List ℕ) (n : ℕ) → Rises (x ∷ xs) → is_among (x ∷ xs) n ≡ true → x ≤ n
first_lowest x [] n up among = grind (arith, nat_tests)
first_lowest x (y ∷ ys) n up among =
    ⊎_elim
    (λ here. omega (arith, eqb-true x n here))
    (λ later. omega (arith, up 0 (omega arith), first_lowest y ys n (λ k below. up (suc k) (omega arith)) later))
    (or_cases (eqb x n) (is_among (y ∷ ys) n) among)

skipped : (x : ℕ) (xs : List ℕ) (from n : ℕ) → x < from → from ≤ n → is_among (x ∷ xs) n ≡ true → is_among xs n ≡ true
skipped x xs from n less low among = rw (ne_eqb x n (λ same. omega arith)) at among

-- A number below `from` in front of a list changes nothing from there on.
behind : (x : ℕ) (xs : List ℕ) (from : ℕ) → x < from → (r : Option ℕ) → LeastFrom (is_among xs) from r → LeastFrom (is_among (x ∷ xs)) from r
behind x xs from less None none = λ n low among. none n low (skipped x xs from n less low among)
behind x xs from less (Some p) h = (
  h.0,
  or_right (eqb x p) (is_among xs p) h.1,
  λ n low below among. h.2 n low below (skipped x xs from n less low among),
)

-- In a rising list the first number at or above `from` is the least that is.
first_is_least : (from : ℕ) (xs : List ℕ) → Rises xs → LeastFrom (is_among xs) from (find (λ p. leb from p) xs)
first_is_least from [] up = λ n low among. grind (arith, nat_tests)
first_is_least from (x ∷ xs) up =
    ⊎_elim
    (λ (less : x < from). subst (LeastFrom (is_among (x ∷ xs)) from) (sym (cond-false (leb from x) (Some x) (find (λ p. leb from p) xs) (lt-leb from x less))) (behind x xs from less _ (first_is_least from xs (λ k below. up (suc k) (omega arith)))))
    (λ (more : from ≤ x). subst (LeastFrom (is_among (x ∷ xs)) from) (sym (cond-true (leb from x) (Some x) (find (λ p. leb from p) xs) (le-leb from x more))) (more, or_left (eqb x x) (is_among xs x) (eq-eqb x x refl), λ n low below among. omega (arith, first_lowest x xs n up among)))
    (cases_lt x from)

-- So it is in a lawful row.
pub least_of_row : (row : PeriodRow) (from : ℕ) → Lawful row → LeastFrom (is_among (periods_of row)) from (find (λ p. leb from p) (periods_of row))
least_of_row row from lawful =
    first_is_least from (periods_of row)
    (λ k below.
    let here : suc k < row.len = omega (arith, length-take row.len row.periods) in
    rw (get_or-take row.len row.periods k 0 (omega arith), get_or-take row.len row.periods (suc k) 0 here)
    (rw add-one at (lawful.rising k (omega arith))))
