use Rattle.std.specs.Prelude.{ℕ, ◌*◌, ◌/◌, ◌<◌, ◌≤◌}
use Rattle.books.specs.Meaning.{Meaning, Fair}
use Rattle.planning.specs.declared.job.Figures.{Figures}
use Rattle.planning.specs.Hyperperiod.{AllowedDivisor, Chosen}
use Rattle.planning.specs.Placing.{Sum}

-- The work in a hyperperiod under a choice of periods: what the jobs of the first n tasks cost together.
abbrev pub work : ℕ → (ℕ → ℕ) → (ℕ → Figures) → ℕ → ℕ
work hyperperiod period figures n = Sum n (λ task. (figures task).cost * (hyperperiod / period task))

-- No other choice of an allowed divisor of the hyperperiod for each task needs less work.
abbrev pub LeastWork : Meaning → ℕ → (ℕ → Figures) → (ℕ → ℕ) → Type 0
LeastWork m hyperperiod figures period =
    (choice : ℕ → ℕ) → ((task : ℕ) → task < m.count → AllowedDivisor m hyperperiod task (choice task)) →
    work hyperperiod period figures m.count ≤ work hyperperiod choice figures m.count

-- The chosen periods need the least work, whatever the tasks cost.
abbrev pub ChosenLeastWork : Type 0
ChosenLeastWork =
    (m : Meaning) → Fair m → (hyperperiod : ℕ) (figures : ℕ → Figures) (period : ℕ → ℕ) →
    ((task : ℕ) → task < m.count → Chosen m hyperperiod task (period task)) → LeastWork m hyperperiod figures period
