use Rattle.std.specs.Prelude.{◌≡◌, ℕ, ◌+◌, ◌-◌, ◌%◌, min, max, Bool, false, cond, ◌&&◌, List, [], ◌==◌, nat_le, nat_lt, slice_index_or}
use Rattle.std.specs.List.{list_any}
use Rattle.books.specs.Meaning.{Meaning}
use Rattle.books.specs.Periods.{periods_of}
use Rattle.books.specs.declared.grid.Grid.{Grid}
use Rattle.books.specs.declared.list_book.ListBook.{ListBook}
use Rattle.books.specs.declared.list_book.PeriodRow.{PeriodRow}
use Rattle.books.specs.declared.range_book.PeriodRange.{PeriodRange}
use Rattle.books.specs.declared.range_book.RangeBook.{RangeBook}
use Rattle.books.specs.declared.side_by_side.SideBySide.{SideBySide}

-- A range allows every period from its low to its high.
abbrev pub is_within : ℕ → ℕ → ℕ → Bool
is_within low high period = nat_le low period && nat_le period high

-- The range that a book of ranges holds for a task.
abbrev pub range_at : RangeBook → ℕ → PeriodRange
range_at b task = slice_index_or b.ranges task (record { low = 0; high = 0 })

-- A book of ranges allows each of its tasks the periods of the task's range.
abbrev pub ranges_of : RangeBook → Meaning
ranges_of b = record {
  count = b.used;
  allowed = λ task period. nat_lt task b.used && is_within (range_at b task).low (range_at b task).high period;
}

-- A period is among those listed.
abbrev pub is_among : List ℕ → ℕ → Bool
is_among periods period = list_any (λ listed. listed == period) periods

-- The row that a book of lists holds for a task.
abbrev pub row_at : ListBook → ℕ → PeriodRow
row_at b task = slice_index_or b.rows task (record { periods = []; len = 0 })

-- The periods that a book of lists holds for a task.
abbrev pub periods_at : ListBook → ℕ → List ℕ
periods_at b task = periods_of (row_at b task)

-- A book of lists allows each of its tasks the periods written for it.
abbrev pub lists_of : ListBook → Meaning
lists_of b = record {
  count = b.used;
  allowed = λ task period. nat_lt task b.used && is_among (periods_at b task) period;
}

-- A grid allows what the book below allows where it is a multiple of the step; step 0 counts as 1.
abbrev pub gridded : ℕ → Meaning → Meaning
gridded step m = record {
  count = m.count;
  allowed = λ task period. m.allowed task period && (period % max step 1 == 0);
}

-- What a grid means, by what the book below means.
abbrev pub gridded_of : {B : Type 0} → (B → Meaning) → Grid B → Meaning
gridded_of below g = gridded g.step (below g.book)

-- Side by side stand the first book's tasks and then the second's; a sum of counts above 17 counts as
-- 17, and tasks from 17 on are allowed nothing.
abbrev pub beside : Meaning → Meaning → Meaning
beside m n = record {
  count = min 17 (m.count + n.count);
  allowed = λ task period.
      nat_lt task 17 && cond (nat_lt task m.count) (m.allowed task period) (n.allowed (task - m.count) period);
}

-- What two books side by side mean, by what each of them means.
abbrev pub beside_of : {F S : Type 0} → (F → Meaning) → (S → Meaning) → SideBySide F S → Meaning
beside_of first second b = beside (first b.first) (second b.second)

-- A book of no tasks allows nothing.
pub record Empty (m : Meaning) : Type 0 where
  pub counted : m.count ≡ 0
  pub barred : (task period : ℕ) → m.allowed task period ≡ false

-- The second meaning is the first with one task more, which has the periods that pass the test.
pub record Adds (m n : Meaning) (test : ℕ → Bool) : Type 0 where
  pub counted : n.count ≡ m.count + 1
  pub tested : (task period : ℕ) → n.allowed task period ≡ cond (task == m.count) (test period) (m.allowed task period)
