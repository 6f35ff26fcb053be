use Rattle.std.specs.Prelude.{◌≡◌, ℕ, ◌%◌, max, Bool, ◌&&◌, ◌==◌}
use Rattle.books.specs.Meaning.{Meaning}
use Rattle.books.specs.Sets.{beside, is_within}

-- The period is one up to 200,000 that is a multiple of the step; step 0 counts as 1.
abbrev pub is_step : ℕ → ℕ → Bool
is_step step period = is_within 1 200000 period && (period % max step 1 == 0)

-- The book has one task, which may have every multiple of the step.
pub record Steps (step : ℕ) (m : Meaning) : Type 0 where
  pub count : m.count ≡ 1
  pub allowed : (task period : ℕ) → m.allowed task period ≡ (task == 0) && is_step step period

-- The book has the four tasks of four such books, side by side.
pub record FourSteps (a b c d : ℕ) (m : Meaning) : Type 0 where
  pub first : Meaning
  pub second : Meaning
  pub third : Meaning
  pub fourth : Meaning
  pub steps : Steps a first × Steps b second × Steps c third × Steps d fourth
  pub means : m ≡ beside (beside first second) (beside third fourth)
