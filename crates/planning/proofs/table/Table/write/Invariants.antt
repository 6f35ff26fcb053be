use Rattle.std.proofs.Common.{◌+◌, ◌≤◌, length, vec_items, vec_len}
use Rattle.planning.specs.FrameRows.{Lacks}
use Rattle.planning.specs.Placing.{Gifts, IsGreedy}
use Rattle.planning.specs.Rows.{RowsOf}
use Rattle.planning.specs.Waits.{lacking}
use Rattle.planning.specs.Windows.{placed}
use Rattle.planning.proofs.table.Table.write.Given as goal

-- every row so far finished a job or used a frame up
abbrev pub invariant-loop-frame : goal.invariant-loop-frame
invariant-loop-frame l =
    let jobs = vec_items l.jobs.list in
    ((G : Gifts) → IsGreedy (placed jobs) (record { count = l.count; size = l.size }) G → Lacks jobs G l.frame (vec_items l.self.lacks) × RowsOf jobs (record { count = l.frame; size = l.size }) G (vec_items l.self.rows))
    × (vec_len l.self.rows + lacking (length jobs) (vec_items l.self.lacks) ≤ length jobs + l.frame)
