use Rattle.std.proofs.Common.{◌≡◌, length}
use Rattle.std.specs.List.Sorted.{IsPermutation}
use Rattle.orders.specs.Sifting.{Heaped}
use Rattle.orders.proofs.sift.heapify.Given as goal

-- Parents from `root` on are right with their children.
abbrev pub invariant-loop-root : goal.invariant-loop-root
invariant-loop-root g l =
    (length l.s ≡ length l.initial.s)
    × IsPermutation l.initial.s l.s
    × Heaped g.T.Ranked.le l.s l.root (length l.initial.s)
