use Rattle.std.proofs.Common.{◌≡◌, ◌≤◌, length, vec_items, vec_len, vec_capacity}
use Rattle.run.proofs.WholeRuns.{CarriedOut}
use Rattle.run.proofs.drive.drive.Given as goal

abbrev pub invariant-loop-call : goal.invariant-loop-call
invariant-loop-call g l =
    (vec_len l.answers ≡ l.call-index)
    × (length l.calls ≤ vec_capacity l.answers)
    × CarriedOut g.B.Book.means l.initial.planner.book l.calls l.call-index (vec_items l.answers) l.planner
