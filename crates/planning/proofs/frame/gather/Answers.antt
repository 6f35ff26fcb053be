use Rattle.std.proofs.Common.{◌≡◌, List, length, length-set, sym, ap, ◌∙◌, arith}
use Rattle.planning.specs.Waits.{waits_at}
use Rattle.planning.specs.declared.job.Job.{Job}
use Rattle.planning.proofs.Weighed.{holds_no_more, holds_one_more}
use Rattle.planning.proofs.frame.gather.Goals as goal
use Rattle.planning.proofs.frame.gather.Goals.{then-waits, else-waits}

pub loop-i-preserved : goal.loop-i-preserved
loop-i-preserved c =
    let jobs : List Job = c.args.jobs.now.list.items in
    let waits = waits_at jobs c.args.lacks.now c.args.begin c.args.end in
    let same : c.deref-job-items.result.now ≡ jobs = c.deref-job-items.ensures.value in
    elim c.if-waits.branch [
      | then-waits w ↦ (
        omega (arith, c.loop-i.invariant.0, w.count-is),
        λ weight.
            holds_one_more jobs waits c.loop-i.slots c.if-waits.slots
            c.loop-i.count c.if-waits.count c.loop-i.i weight (omega (arith, c.loop-i.invariant.0, c.args.jobs.now.few, c.args.jobs.now.list.ok.0, c.loop-i.invariant.2)) (rw same at (sym c.waits.ensures ∙ w.if-waits.true)) w.count-is (rw same at w.slots-is)
            (c.loop-i.invariant.1 weight),
        omega (arith, ap length w.slots-is, length-set c.loop-i.slots c.loop-i.count, c.loop-i.invariant.2),
      )
      | else-waits w ↦ (
        omega (arith, c.loop-i.invariant.0, w.count-is),
        λ weight.
            holds_no_more jobs waits c.loop-i.slots c.if-waits.slots
            c.loop-i.count c.if-waits.count c.loop-i.i weight (rw same at (sym c.waits.ensures ∙ w.if-waits.false)) w.count-is w.slots-is
            (c.loop-i.invariant.1 weight),
        ap length w.slots-is ∙ c.loop-i.invariant.2,
      )
    ]
