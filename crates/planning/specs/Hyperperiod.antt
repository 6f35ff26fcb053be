use Rattle.std.specs.Prelude.{◌≡◌, ℕ, ◌%◌, ◌<◌, ◌≤◌, true, Some, None, Option}
use Rattle.books.specs.Meaning.{Meaning}

-- The period is one that the book allows to the task, and divides the number.
abbrev pub AllowedDivisor : Meaning → ℕ → ℕ → ℕ → Type 0
AllowedDivisor m number task period = (m.allowed task period ≡ true) × (number % period ≡ 0)

-- The number serves the task: some period that the book allows to it divides the number.
abbrev pub ServesTask : Meaning → ℕ → ℕ → Type 0
ServesTask m number task = (period : ℕ) × AllowedDivisor m number task period

-- The number serves the book: it serves every task.
abbrev pub Serves : Meaning → ℕ → Type 0
Serves m number = (task : ℕ) → task < m.count → ServesTask m number task

-- The hyperperiod: the least number from 1 to the ceiling that serves the book.
pub record LeastHyperperiod (m : Meaning) (ceiling h : ℕ) : Type 0 where
  pub low : 1 ≤ h
  pub high : h ≤ ceiling
  pub serves : Serves m h
  pub least : (n : ℕ) → 1 ≤ n → n < h → Serves m n → ⊥

-- No number from 1 to the ceiling serves the book.
abbrev pub NoneServes : Meaning → ℕ → Type 0
NoneServes m ceiling = (n : ℕ) → 1 ≤ n → n ≤ ceiling → Serves m n → ⊥

-- The chosen period of a task for a number: its greatest allowed divisor of it.
pub record Chosen (m : Meaning) (number task period : ℕ) : Type 0 where
  pub divides : AllowedDivisor m number task period
  pub greatest : (other : ℕ) → AllowedDivisor m number task other → other ≤ period

-- The answer is the chosen period of the task for a number from 1 to 1,000,000, or none where the number
-- is another or does not serve the task.
abbrev pub ChosenOrNone : Meaning → ℕ → ℕ → Option ℕ → Type 0
ChosenOrNone m number task None = 1 ≤ number → number ≤ 1000000 → ServesTask m number task → ⊥
ChosenOrNone m number task (Some period) = (1 ≤ number) × (number ≤ 1000000) × Chosen m number task period

-- The answer is the least number from `low` to `high` that serves the task, or none where none does.
abbrev pub NextServing : Meaning → ℕ → ℕ → ℕ → Option ℕ → Type 0
NextServing m task low high None = (n : ℕ) → low ≤ n → n ≤ high → ServesTask m n task → ⊥
NextServing m task low high (Some least) =
    (low ≤ least) × (least ≤ high) × ServesTask m least task × ((n : ℕ) → low ≤ n → n < least → ServesTask m n task → ⊥)
