use Rattle.std.proofs.Common.{◌≡◌, ◌+◌, ◌-◌, ◌≤◌, length}
use Rattle.std.specs.List.Sorted.{IsPermutation}
use Rattle.orders.specs.Sifting.{Heaped}
use Rattle.orders.proofs.Sinking.{Sinking}
use Rattle.orders.proofs.sift.sift_down.Given as goal

-- The element at `at` may still stand behind one of its children, and no other.
abbrev pub invariant-loop-child : goal.invariant-loop-child
invariant-loop-child g l =
    (l.root ≤ l.«at»)
    × (length l.s ≡ length l.initial.s)
    × IsPermutation l.initial.s l.s
    × (Heaped g.T.Ranked.le l.initial.s (l.root + 1) (length l.initial.s) → Sinking g.T.Ranked.le l.s l.root l.«at» (length l.initial.s))

abbrev pub decreases-loop-child : goal.decreases-loop-child
decreases-loop-child g l = length l.initial.s - l.«at»
