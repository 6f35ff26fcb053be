use Rattle.std.proofs.Common.{◌≡◌, ℕ, ◌≤◌, cond, length, take, sum_by}
use Rattle.orders.specs.declared.waiting.Waiting.{Waiting}
use Rattle.planning.specs.Placing.{Sum}
use Rattle.planning.specs.Waits.{waiting_of, waits_at}
use Rattle.planning.specs.Windows.{job_at}
use Rattle.planning.proofs.frame.gather.Given as goal

-- the first slots hold those of the jobs so far that wait
abbrev pub invariant-loop-i : goal.invariant-loop-i
invariant-loop-i l =
    (l.count ≤ l.i)
    × ((weight : Waiting → ℕ) → sum_by weight (take l.count l.slots) ≡ Sum l.i (λ i. cond (waits_at l.jobs.list.items l.lacks l.begin l.end i) (weight (waiting_of (job_at l.jobs.list.items i))) 0))
    × (length l.slots ≡ 1024)
