use Rattle.std.proofs.Common.{◌≡◌, ◌-◌, ◌<◌, length, take}
use Rattle.std.specs.List.Sorted.{IsPermutation}
use Rattle.orders.specs.Order.{Sound}
use Rattle.orders.proofs.Rising.{Rising}
use Rattle.orders.proofs.sift.sift_up.Given as goal

-- The element at `at` may still stand before its parent, and no other.
abbrev pub invariant-loop-at : goal.invariant-loop-at
invariant-loop-at g l =
    (l.«at» < length l.initial.s)
    × (length l.s ≡ length l.initial.s)
    × IsPermutation l.initial.s l.s
    × (Sound g.T.Ranked.le (take (length l.initial.s - 1) l.initial.s) → Rising g.T.Ranked.le l.s l.«at» (length l.initial.s))

abbrev pub decreases-loop-at : goal.decreases-loop-at
decreases-loop-at g l = l.«at»
