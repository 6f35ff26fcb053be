use Rattle.std.proofs.Common.{◌≡◌, ◌+◌, ◌≤◌, cond, ltb, length, vec_items, vec_len, vec_capacity}
use Rattle.orders.specs.Held.{held}
use Rattle.orders.specs.Models.{waiting_le}
use Rattle.orders.specs.Order.{Sound}
use Rattle.planning.specs.Waits.{lacking}
use Rattle.planning.proofs.Underway.{Underway}
use Rattle.planning.proofs.table.Table.serve.Given as goal

-- each row so far finished a job, the waiting jobs are in heap order, the frame has room for one that uses it up,
-- the heap has the slots, and no memory was taken
abbrev pub invariant-loop-left : goal.invariant-loop-left
invariant-loop-left l =
    let jobs = vec_items l.jobs.list in
    let start = l.initial.self in
    Underway jobs l.frame l.size start.lacks.items l.self.lacks.items l.left (held l.waiting) start.rows.items l.self.rows.items
    × Sound waiting_le (held l.waiting)
    × (vec_len l.self.rows + lacking (length jobs) l.self.lacks.items + cond (ltb 0 l.left) 1 0 ≤ vec_len start.rows + lacking (length jobs) start.lacks.items + 1)
    × (l.waiting.slots.ghost_name ≡ l.initial.waiting.slots.ghost_name)
    × (vec_capacity l.self.rows ≡ vec_capacity start.rows)
    × (vec_capacity l.self.lacks ≡ vec_capacity start.lacks)

abbrev pub decreases-loop-left : goal.decreases-loop-left
decreases-loop-left l = l.left
