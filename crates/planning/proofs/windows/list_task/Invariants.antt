use Rattle.std.proofs.Common.{◌≡◌, ◌+◌, ◌++◌, map, vec_items, vec_len, vec_capacity}
use Rattle.std.specs.List.{range_with_len}
use Rattle.planning.specs.Windows.{window_of}
use Rattle.planning.proofs.windows.list_task.Given as goal

abbrev pub invariant-loop-job : goal.invariant-loop-job
invariant-loop-job l =
    (vec_items l.jobs ≡ vec_items l.initial.jobs ++ map (window_of l.task l.period l.figures) (range_with_len 0 l.job)) × (vec_len l.jobs ≡ vec_len l.initial.jobs + l.job) × (vec_capacity l.jobs ≡ vec_capacity l.initial.jobs)
