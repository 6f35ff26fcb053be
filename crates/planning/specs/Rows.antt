use Rattle.std.specs.Prelude.{◌≡◌, ℕ, ◌+◌, ◌<◌, ◌≤◌, Bool, true, ◌&&◌, ◌||◌, All, Contains, List, map, length, ◌==◌, nat_lt, slice_index_or}
use Rattle.planning.specs.declared.job.Job.{Job}
use Rattle.planning.specs.declared.job.Row.{Row}
use Rattle.planning.specs.Placing.{Jobs, Frames, Gifts, IsGreedy, is_before}
use Rattle.planning.specs.Windows.{job_at, placed}

-- A place of the table: a frame and the position of a job.
pub record Place : Type 0 where
  pub frame : ℕ
  pub position : ℕ

-- A place comes earlier in the table: in an earlier frame, or in the same one and the job is served before.
abbrev pub is_earlier : Jobs → Place → Place → Bool
is_earlier js a b = nat_lt a.frame b.frame || (a.frame == b.frame && is_before js a.position b.position)

-- The places come one earlier than the next, and so each only once.
abbrev pub Rising : Jobs → List Place → Type 0
Rising js places =
    (a b : ℕ) (d : Place) → a < b → b < length places → is_earlier js (slice_index_or places a d) (slice_index_or places b d) ≡ true

-- The place is one of the table's, and the gift there is above 0.
abbrev pub IsGift : Jobs → Frames → Gifts → Place → Type 0
IsGift js fr G p = (p.frame < fr.count) × (p.position < js.count) × (0 < G p.frame p.position)

-- The row that is written for a gift: frame, task, job and length.
abbrev pub row_of : List Job → Gifts → Place → Row
row_of jobs G p = record {
  frame = p.frame;
  task = (job_at jobs p.position).task;
  job = (job_at jobs p.position).job;
  length = G p.frame p.position;
}

-- The rows are those of the table of gifts: one for each gift above 0, frame by frame, and within a frame in
-- the order of service.
pub record RowsOf (jobs : List Job) (fr : Frames) (G : Gifts) (rows : List Row) : Type 0 where
  pub places : List Place
  pub written : rows ≡ map (row_of jobs G) places
  pub rising : Rising (placed jobs) places
  pub gifts : All (IsGift (placed jobs) fr G) places
  pub all : (p : Place) → IsGift (placed jobs) fr G p → Contains places p

-- The rows are those of the greedy table.
abbrev pub GreedyRows : List Job → Frames → List Row → Type 0
GreedyRows jobs fr rows = (G : Gifts) → IsGreedy (placed jobs) fr G → RowsOf jobs fr G rows

-- A list of jobs and frames have one list of rows, and no other.
abbrev pub RowsAreOne : Type 0
RowsAreOne = (jobs : List Job) (fr : Frames) (rows others : List Row) → GreedyRows jobs fr rows → GreedyRows jobs fr others → rows ≡ others

-- The rows are no more than the jobs and the frames.
abbrev pub RowsAreFew : Type 0
RowsAreFew = (jobs : List Job) (fr : Frames) (rows : List Row) → GreedyRows jobs fr rows → length rows ≤ length jobs + fr.count
