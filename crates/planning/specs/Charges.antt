use Rattle.std.specs.Prelude.{◌≡◌, ℕ, ◌<◌, true, false, List, is_some, None, Option, slice_index_or}
use Rattle.std.specs.Option.{unwrap_or}
use Rattle.planning.specs.declared.job.Figures.{Figures}

-- The figures noted for a task, and figures of 0 where none are noted.
abbrev pub figures_at : List (Option Figures) → ℕ → Figures
figures_at figures task = unwrap_or (slice_index_or figures task None) (record { cost = 0; deadline = 0 })

-- Each of the first n tasks has figures.
abbrev pub Charged : List (Option Figures) → ℕ → Type 0
Charged figures n = (task : ℕ) → task < n → is_some (slice_index_or figures task None) ≡ true

-- The task is the lowest of the first n that has no figures.
abbrev pub LowestUncharged : List (Option Figures) → ℕ → ℕ → Type 0
LowestUncharged figures n task = (task < n) × (is_some (slice_index_or figures task None) ≡ false) × Charged figures task
