use Rattle.std.specs.Prelude.{◌≡◌, ℕ, ◌+◌, ◌-◌, ◌<◌, ◌≤◌, true, All, Contains, List, ◌++◌, map, length, slice_index, slice_index_or}
use Rattle.planning.specs.declared.job.Job.{Job}
use Rattle.planning.specs.declared.job.Row.{Row}
use Rattle.planning.specs.Placing.{Jobs, Frames, Gifts, is_before, given}
use Rattle.planning.specs.Serving.{Served}
use Rattle.planning.specs.Windows.{job_at, placed}

-- What each job was given between two states of what the jobs lack.
abbrev pub fallen : List ℕ → List ℕ → ℕ → ℕ
fallen before after i = slice_index before i - slice_index after i

-- The row that a frame writes for its gift to the job at a position.
abbrev pub row_at : List Job → ℕ → (ℕ → ℕ) → ℕ → Row
row_at jobs frame row i = record {
  frame = frame;
  task = (job_at jobs i).task;
  job = (job_at jobs i).job;
  length = row i;
}

-- Positions of jobs, each served before the next.
abbrev pub InService : Jobs → List ℕ → Type 0
InService js positions =
    (a b d : ℕ) → a < b → b < length positions → is_before js (slice_index_or positions a d) (slice_index_or positions b d) ≡ true

-- Rows were added for the gifts of a frame: one for each gift above 0, in the order of service.
pub record RowsAdded (jobs : List Job) (frame : ℕ) (row : ℕ → ℕ) (before after : List Row) : Type 0 where
  pub positions : List ℕ
  pub written : after ≡ before ++ map (row_at jobs frame row) positions
  pub order : InService (placed jobs) positions
  pub gifts : All (λ i. (i < length jobs) × (0 < row i)) positions
  pub all : (i : ℕ) → i < length jobs → 0 < row i → Contains positions i

-- A frame was served: no job lacks more than before, and what each now lacks less is what a frame of that
-- size gives to those that lacked so much.
pub record FrameServed (jobs : List Job) (frame size : ℕ) (before after : List ℕ) : Type 0 where
  pub falls : (i : ℕ) → i < length jobs → slice_index after i ≤ slice_index before i
  pub served : Served (placed jobs) (record { count = frame + 1; size = size }) frame (λ i. slice_index before i) (fallen before after)

-- The jobs lack what the table has not given them in the frames before frame t.
abbrev pub Lacks : List Job → Gifts → ℕ → List ℕ → Type 0
Lacks jobs G t lacks = (i : ℕ) → i < length jobs → slice_index lacks i ≡ (job_at jobs i).cost - given G i t

-- The table leaves some job unfinished.
abbrev pub Unfinished : Jobs → Frames → Gifts → Type 0
Unfinished js fr G = (i : ℕ) × (i < js.count) × (given G i fr.count < js.cost i)
