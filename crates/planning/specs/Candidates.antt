use Rattle.std.specs.Prelude.{◌≡◌, ℕ, ◌<◌, ◌≤◌, All, Contains, List, Ok, Err, Result}
use Rattle.books.specs.Meaning.{Meaning}
use Rattle.orders.specs.declared.candidate.Candidate.{Candidate}
use Rattle.planning.specs.declared.refusal.Refusal.{Refusal}
use Rattle.planning.specs.declared.refusal.Refusal.TheVariants.{NothingServes}
use Rattle.planning.specs.Hyperperiod.{LeastHyperperiod, NoneServes, Serves, ServesTask}

-- A candidate of a task of the book: at most the highest number, and 0 or a number that serves the task.
abbrev pub Stands : Meaning → ℕ → Candidate → Type 0
Stands m highest c = (c.task < m.count) × (c.number ≤ highest) × (1 ≤ c.number → ServesTask m c.number c.task)

-- What is known at each turn of the search: every task has a candidate, each of them stands, and no
-- number below the highest serves the book.
pub record Searched (m : Meaning) (highest : ℕ) (cs : List Candidate) : Type 0 where
  pub tasks : (task : ℕ) → task < m.count → (n : ℕ) × Contains cs (record { number = n; task = task })
  pub stand : All (Stands m highest) cs
  pub below : (n : ℕ) → 1 ≤ n → n < highest → Serves m n → ⊥

-- What the search finds.
abbrev pub Found : Meaning → ℕ → Result ℕ Refusal → Type 0
Found m ceiling (Ok h) = LeastHyperperiod m ceiling h
Found m ceiling (Err e) = (e ≡ NothingServes) × NoneServes m ceiling
