use Rattle.std.specs.Prelude.{◌≡◌, ℕ, ◌*◌, ◌<◌, ◌≤◌, true, Some, None, Option}
use Rattle.books.specs.Meaning.{Meaning}
use Rattle.planning.specs.Hyperperiod.{ServesTask}
use Rattle.planning.specs.declared.multiples.Multiples.{Multiples}

-- What is asked for: the numbers from `from` on that serve a task of a book of this meaning.
pub record Asked : Type 0 where
  pub book : Meaning
  pub task : ℕ
  pub from : ℕ

-- What the multiples of a task's periods are asked for, by what the book means.
abbrev pub asked : {B : Type 0} → (B → Meaning) → Multiples B → Asked
asked means multiples = record { book = means multiples.book.now; task = multiples.task; from = multiples.from }

-- A bound was lowered, not below `from`, and where it fell it is a number that serves the task.
pub record Lowered (a : Asked) (old new : ℕ) : Type 0 where
  pub most : new ≤ old
  pub reaches : a.from ≤ new
  pub serves : new < old → ServesTask a.book new a.task

-- Of those allowed periods that `which` holds of, no multiple from `from` on is below the bound.
abbrev pub Bounds : Asked → ℕ → (ℕ → Type 0) → Type 0
Bounds a bound which =
    (period times : ℕ) → a.book.allowed a.task period ≡ true → which period → a.from ≤ times * period → bound ≤ times * period

-- The period comes before the first one that was not looked at, if there is one.
abbrev pub Before : Option ℕ → ℕ → Type 0
Before None period = Unit {0}
Before (Some first) period = period < first

-- A bound was lowered to `times` the least allowed period from `low` on, where that is lower.
pub record LoweredBy (a : Asked) (low times old new : ℕ) : Type 0 where
  pub most : new ≤ old
  pub made : new < old → (period : ℕ) × (a.book.allowed a.task period ≡ true) × (low ≤ period) × (new ≡ times * period)
  pub bounds : (period : ℕ) → a.book.allowed a.task period ≡ true → low ≤ period → new ≤ times * period

-- No multiple from `from` on of an allowed period, by a factor above `low` and at most `high`, is below
-- the bound.
abbrev pub BoundsFor : Asked → ℕ → ℕ → ℕ → Type 0
BoundsFor a bound low high =
    (period times : ℕ) → a.book.allowed a.task period ≡ true → low < times → times ≤ high → a.from ≤ times * period → bound ≤ times * period
