use Rattle.std.specs.Prelude.{◌≡◌, ℕ, zero, suc, cond, ◌&&◌, List, [], ◌∷◌, ◌++◌, map, sum_by, filter, ◌==◌, nat_eq}
use Rattle.planning.specs.declared.job.Row.{Row}
use Rattle.run.specs.declared.event.Event.{Event}
use Rattle.run.specs.declared.event.Event.TheVariants.{Slice, FrameEnd}

-- What an event tells: its kind, 1 for a slice and 2 for a frame's end, its repetition and frame, and the task,
-- job and length of a slice, which are 0 for a frame's end.
pub record Told : Type 0 where
  pub kind : ℕ
  pub repetition : ℕ
  pub frame : ℕ
  pub task : ℕ
  pub job : ℕ
  pub length : ℕ

abbrev pub told : Event → Told
told (Slice r g t j l) = record { kind = 1; repetition = r; frame = g; task = t; job = j; length = l }
told (FrameEnd r g) = record { kind = 2; repetition = r; frame = g; task = 0; job = 0; length = 0 }

-- The lists f 0, f 1, .. and f (n - 1), one after the other.
abbrev pub joined : {X : Type 0} → ℕ → (ℕ → List X) → List X
joined zero f = []
joined (suc n) f = joined n f ++ f n

-- The rows of a frame, in table order.
abbrev pub rows_in : List Row → ℕ → List Row
rows_in rows frame = filter (λ row. nat_eq row.frame frame) rows

-- A row as an event of a repetition.
abbrev pub slice_of : ℕ → Row → Event
slice_of repetition row = Slice repetition row.frame row.task row.job row.length

-- The events of a frame: each of its rows in table order, then the frame's end.
abbrev pub frame_events : List Row → ℕ → ℕ → List Event
frame_events rows repetition frame = map (slice_of repetition) (rows_in rows frame) ++ FrameEnd repetition frame ∷ []

-- The events of a repetition: those of its frames in order.
abbrev pub repetition_events : List Row → ℕ → ℕ → List Event
repetition_events rows frames repetition = joined frames (frame_events rows repetition)

-- The events of the first n repetitions of a table.
abbrev pub run_events : List Row → ℕ → ℕ → List Event
run_events rows frames n = joined n (repetition_events rows frames)

-- The first list is a beginning of the second.
abbrev pub Begins : {X : Type 0} → List X → List X → Type 0
Begins {X} xs ys = (rest : List X) × (xs ++ rest ≡ ys)

-- How many frames ended among the events.
abbrev pub end_of : Event → ℕ
end_of (Slice repetition frame task job length) = 0
end_of (FrameEnd repetition frame) = 1

abbrev pub frame_ends : List Event → ℕ
frame_ends events = sum_by end_of events

-- What the slices of a job of a repetition total.
abbrev pub slice_for : ℕ → ℕ → ℕ → Event → ℕ
slice_for r t j (Slice repetition frame task job length) = cond ((repetition == r && task == t) && job == j) length 0
slice_for r t j (FrameEnd repetition frame) = 0

abbrev pub total : ℕ → ℕ → ℕ → List Event → ℕ
total r t j events = sum_by (slice_for r t j) events
