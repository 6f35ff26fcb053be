use Rattle.std.proofs.Common.{◌≡◌, ℕ, [], ◌<◌, get_or}
use Rattle.planning.specs.Windows.{job_at}
use Rattle.planning.proofs.table.Table.reset.Given as goal

abbrev pub invariant-loop-i : goal.invariant-loop-i
invariant-loop-i l = (l.self.rows.items ≡ []) × ((k : ℕ) → k < l.i → get_or l.self.lacks.items k 0 ≡ (job_at l.jobs.list.items k).cost)
