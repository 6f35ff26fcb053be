use Rattle.std.proofs.Common.{ℕ, ◌/◌, get_or, div-le_self, arith}
use Rattle.planning.proofs.Sums.{sum_more}
use Rattle.planning.proofs.ListedJobs.{jobs_at_most}
use Rattle.planning.proofs.windows.count_jobs.Goals as goal

pub overflow_add-count : goal.overflow_add-count
overflow_add-count c =
    let period : ℕ → ℕ = λ t. get_or c.args.periods.now t 0 in
    let task = c.loop-period.period-index in
    omega (arith, jobs_at_most c.args.hyperperiod task period c.requires.range.1, div-le_self c.args.hyperperiod (period task))

pub loop-period-preserved : goal.loop-period-preserved
loop-period-preserved c =
    omega (arith, sum_more c.loop-period.period-index (λ t. c.args.hyperperiod / get_or c.args.periods.now t 0))
