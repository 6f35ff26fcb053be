use Rattle.std.specs.Prelude.{◌≡◌, ℕ, ◌+◌, ◌<◌, ◌≤◌, Bool, true, ◌&&◌, List, take, nat_le, slice_index}
use Rattle.books.specs.declared.list_book.PeriodRow.{PeriodRow}

-- A period is a number from 1 to 200,000.
abbrev pub is_a_period : ℕ → Bool
is_a_period n = nat_le 1 n && nat_le n 200000

-- The numbers that a row holds.
abbrev pub periods_of : PeriodRow → List ℕ
periods_of row = take row.len row.periods

-- A row holds one to eight numbers.
abbrev pub OneToEight : PeriodRow → Type 0
OneToEight row = (1 ≤ row.len) × (row.len ≤ 8)

-- Each of them is a period.
abbrev pub AllPeriods : PeriodRow → Type 0
AllPeriods row = (k : ℕ) → k < row.len → is_a_period (slice_index row.periods k) ≡ true

-- Each but the first is above the one before it.
abbrev pub StrictlyRising : PeriodRow → Type 0
StrictlyRising row = (k : ℕ) → k + 1 < row.len → slice_index row.periods k < slice_index row.periods (k + 1)

-- A row is lawful if it holds one to eight periods, strictly rising.
pub record Lawful (row : PeriodRow) : Type 0 where
  pub counted : OneToEight row
  pub bounded : AllPeriods row
  pub rising : StrictlyRising row
