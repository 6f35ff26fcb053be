use Rattle.std.proofs.Common.{◌≡◌, ℕ, ◌/◌, ◌%◌, ◌<◌, ◌≤◌, vec_items}
use Rattle.planning.specs.Placing.{Overloaded}
use Rattle.planning.specs.Windows.{placed}
use Rattle.planning.proofs.sizes.largest_size.Given as goal

-- every size that was tried is overloaded
abbrev pub invariant-loop-count : goal.invariant-loop-count
invariant-loop-count l =
    (c : ℕ) → 1 ≤ c → c < l.count → l.hyperperiod % c ≡ 0 → (a : ℕ) × (b : ℕ) × Overloaded (placed (vec_items l.jobs.list)) (record { count = c; size = l.hyperperiod / c }) a b
