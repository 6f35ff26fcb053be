use Rattle.std.specs.Prelude.{ℕ, List, Some, None, Option}
use Rattle.planning.specs.declared.job.Job.{Job}
use Rattle.planning.specs.declared.job.Row.{Row}
use Rattle.planning.specs.Rows.{GreedyRows}
use Rattle.planning.specs.Sizes.{EverySizeOverloaded, LargestSize, frames_of}
use Rattle.planning.specs.Windows.{placed}

-- The size that was found for the jobs, with the rows of its table, or that every size fails.
abbrev pub SizeFound : List Job → ℕ → List Row → Option ℕ → Type 0
SizeFound jobs hyperperiod rows None = EverySizeOverloaded (placed jobs) hyperperiod
SizeFound jobs hyperperiod rows (Some size) = LargestSize (placed jobs) hyperperiod size × GreedyRows jobs (frames_of hyperperiod size) rows
