use Rattle.std.proofs.Common.{◌+◌, ◌-◌, ◌<◌, ◌≤◌}
use Rattle.planning.specs.Multiples.{asked, Bounds, Lowered}
use Rattle.planning.proofs.multiples.Multiples.by_period.Given as goal

abbrev pub invariant-loop-period : goal.invariant-loop-period
invariant-loop-period g l =
    (1 ≤ l.«at») × (l.«at» ≤ 200001) × Lowered (asked g.B.Book.means l.self) (l.self.limit + 1) l.best × Bounds (asked g.B.Book.means l.self) l.best (λ q. q < l.«at»)

abbrev pub decreases-loop-period : goal.decreases-loop-period
decreases-loop-period g l = 200002 - l.«at»
