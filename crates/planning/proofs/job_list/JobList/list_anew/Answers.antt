use Rattle.std.proofs.Common.{◌≡◌, ℕ, List, suc, ◌+◌, ◌/◌, ◌<◌, length, get_or, set, sym, ap, ◌∙◌, subst, arith}
use Rattle.planning.specs.Charges.{figures_at}
use Rattle.planning.specs.declared.job.Figures.{Figures}
use Rattle.planning.specs.Placing.{Sum}
use Rattle.planning.specs.Windows.{jobs_of, InOrder, Indexed}
use Rattle.planning.proofs.Sums.{sum_grows, sum_more}
use Rattle.planning.proofs.ListedJobs.{firsts_index, jobs_in_order, next_first_noted, next_task_listed}
use Rattle.planning.proofs.job_list.JobList.list_anew.Goals as goal
use Rattle.planning.proofs.job_list.JobList.list_anew.Goals.{After-list_task}

pub list_task-requires : goal.list_task-requires
list_task-requires c =
    let counts : ℕ → ℕ = λ t. c.args.hyperperiod / get_or c.args.periods.now t 0 in
    let at_task = c.requires.periods c.loop-task.task c.loop-task-test.true in
    record {
      range = (at_task.0, at_task.1, c.requires.range.1);
      room = omega (arith, c.loop-task.invariant.1, c.loop-task.self.room, c.requires.few, sum_grows (suc c.loop-task.task) (length c.args.periods.now) counts c.loop-task-test.true);
    }

-- the jobs of one more task are listed, and where they begin is noted
listed : (c : goal.After-list_task) → c.list_task.new.jobs.items ≡ jobs_of c.args.hyperperiod (λ t. get_or c.args.periods.now t 0) (figures_at c.args.figures.now) (c.loop-task.task + 1)
listed c =
    next_task_listed c.args.hyperperiod (λ t. get_or c.args.periods.now t 0) (figures_at c.args.figures.now) c.loop-task.task c.figures_of.result c.loop-task.self.list.items c.list_task.new.jobs.items
    c.figures_of.ensures
    c.loop-task.invariant.0
    c.list_task.ensures.items

noted : (c : goal.After-list_task) → (t : ℕ) → t < c.loop-task.task + 1 → get_or (set c.loop-task.self.firsts c.loop-task.task c.len.result) t 0 ≡ Sum t (λ k. c.args.hyperperiod / get_or c.args.periods.now k 0)
noted c =
    next_first_noted c.loop-task.self.firsts c.loop-task.task c.len.result (λ k. c.args.hyperperiod / get_or c.args.periods.now k 0) (omega arith) (c.len.ensures ∙ c.loop-task.invariant.1)
    c.loop-task.invariant.2

pub invariant_of-self-in-loop-task : goal.invariant_of-self-in-loop-task
invariant_of-self-in-loop-task c =
    let period : ℕ → ℕ = λ t. get_or c.args.periods.now t 0 in
    let counts : ℕ → ℕ = λ t. c.args.hyperperiod / period t in
    let figures : ℕ → Figures = figures_at c.args.figures.now in
    let task = c.loop-task.task in
    let firsts : List ℕ = set c.loop-task.self.firsts task c.len.result in
    record {
      room = omega (arith, c.list_task.ensures.capacity, c.loop-task.self.room);
      few = omega (arith, c.list_task.ensures.len, c.loop-task.invariant.1, c.requires.few, sum_grows (suc task) (length c.args.periods.now) counts c.loop-task-test.true);
      order = subst InOrder (sym (listed c)) (jobs_in_order c.args.hyperperiod period figures (task + 1));
      indexed = subst (Indexed firsts) (sym (listed c)) (firsts_index c.args.hyperperiod period figures (task + 1) firsts (omega (arith, c.requires.range.0, c.loop-task-test.true)) (noted c));
    }

pub loop-task-preserved : goal.loop-task-preserved
loop-task-preserved c =
    let at = (goal.at.loop-task-preserved c).After-list_task in (
      listed at,
      omega (arith, c.list_task.ensures.len, c.loop-task.invariant.1, sum_more c.loop-task.task (λ t. c.args.hyperperiod / get_or c.args.periods.now t 0)),
      noted at,
    )

pub returns : goal.returns
returns c =
    let all : c.loop-task.task ≡ length c.args.periods.now = omega arith in
    c.loop-task.invariant.0 ∙ ap (jobs_of c.args.hyperperiod (λ t. get_or c.args.periods.now t 0) (figures_at c.args.figures.now)) all
