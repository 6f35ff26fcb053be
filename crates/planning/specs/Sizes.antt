use Rattle.std.specs.Prelude.{◌≡◌, ℕ, ◌/◌, ◌%◌, ◌≤◌}
use Rattle.planning.specs.Placing.{Jobs, Frames, Fillable, Overloaded}

-- A frame size is permitted when it divides the hyperperiod and makes at most 256 frames of it.
pub record Permitted (hyperperiod size : ℕ) : Type 0 where
  pub some : 1 ≤ size
  pub divides : hyperperiod % size ≡ 0
  pub few : hyperperiod / size ≤ 256

-- The frames of a hyperperiod at a size.
abbrev pub frames_of : ℕ → ℕ → Frames
frames_of hyperperiod size = record { count = hyperperiod / size; size = size }

-- The size that is granted: the largest permitted one that some table fills.
pub record LargestSize (js : Jobs) (hyperperiod size : ℕ) : Type 0 where
  pub permitted : Permitted hyperperiod size
  pub fillable : Fillable js (frames_of hyperperiod size)
  pub largest : (other : ℕ) → Permitted hyperperiod other → Fillable js (frames_of hyperperiod other) → other ≤ size

-- At each permitted size some run of frames has fewer ticks than its confined jobs cost.
abbrev pub EverySizeOverloaded : Jobs → ℕ → Type 0
EverySizeOverloaded js hyperperiod =
    (size : ℕ) → Permitted hyperperiod size → (a : ℕ) × (b : ℕ) × Overloaded js (frames_of hyperperiod size) a b
