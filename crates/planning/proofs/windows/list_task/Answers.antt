use Rattle.std.proofs.Common.{arith}
use Rattle.planning.proofs.ListedJobs.{next_job_listed, release_within}
use Rattle.planning.proofs.windows.list_task.Goals as goal

pub overflow_mul-release : goal.overflow_mul-release
overflow_mul-release c = omega (arith, release_within c.args.hyperperiod c.args.period c.loop-job.job c.loop-job-test.true)

pub overflow_add-release : goal.overflow_add-release
overflow_add-release c = omega (arith, release_within c.args.hyperperiod c.args.period c.loop-job.job c.loop-job-test.true)

pub loop-job-preserved : goal.loop-job-preserved
loop-job-preserved c = (
  next_job_listed c.args.task c.args.period c.args.figures c.loop-job.job c.min-length.result c.args.jobs.now.items c.loop-job.jobs.items c.push_reserved.new.self.items
      c.min-length.ensures
      c.loop-job.invariant.0
      c.push_reserved.ensures.items,
  omega arith,
  omega arith,
)
