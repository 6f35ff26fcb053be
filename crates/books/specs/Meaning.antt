use Rattle.std.specs.Prelude.{◌≡◌, ℕ, ◌<◌, ◌≤◌, Bool, true, Some, None, Option, ◌≢◌}

-- All that a book says: how many tasks it has, where 17 stands for more than 16, and which periods
-- each task may have (`allowed task period`).
pub record Meaning : Type 0 where
  pub count : ℕ
  pub allowed : ℕ → ℕ → Bool

-- What every book owes: a count of at most 17, and that each allowed pair has a task below the count
-- and a period from 1 to 200,000.
pub record Fair (m : Meaning) : Type 0 where
  pub few : m.count ≤ 17
  pub inside : (task period : ℕ) → m.allowed task period ≡ true → (task < m.count) × (1 ≤ period) × (period ≤ 200000)

-- The answer is the least number at or above `from` that passes the test, or none where none does.
abbrev pub LeastFrom : (ℕ → Bool) → ℕ → Option ℕ → Type 0
LeastFrom test from None = (n : ℕ) → from ≤ n → test n ≢ true
LeastFrom test from (Some least) =
    (from ≤ least) × (test least ≡ true) × ((n : ℕ) → from ≤ n → n < least → test n ≢ true)
