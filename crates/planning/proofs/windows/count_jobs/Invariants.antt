use Rattle.std.proofs.Common.{◌≡◌, ◌/◌, get_or}
use Rattle.planning.specs.Placing.{Sum}
use Rattle.planning.proofs.windows.count_jobs.Given as goal

abbrev pub invariant-loop-period : goal.invariant-loop-period
invariant-loop-period l = l.count ≡ Sum l.period-index (λ t. l.hyperperiod / get_or l.periods t 0)
