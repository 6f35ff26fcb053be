use Rattle.std.proofs.Common.{◌≡◌, ◌/◌, List, sym, subst, arith}
use Rattle.planning.specs.Placing.{Jobs}
use Rattle.planning.specs.Rows.{GreedyRows}
use Rattle.planning.specs.Windows.{placed}
use Rattle.planning.specs.declared.job.Job.{Job}
use Rattle.planning.proofs.FrameSizes.{Tried, every_size_overloaded, largest_size, one_more_tried, pair_quotient, tried_more}
use Rattle.planning.proofs.sizes.largest_size.Goals as goal
use Rattle.planning.proofs.sizes.largest_size.Goals.{then-hyperperiod-count-eq0+else-write, else-hyperperiod-count-eq0}

pub returns-then-write : goal.returns-then-write
returns-then-write c =
    let h = c.args.hyperperiod in
    let count = c.loop-count.count in
    let jobs : List Job = c.args.jobs.now.list.items in
    let back : h / (h / count) ≡ count = pair_quotient h count c.requires.some c.loop-count.auto.count c.if-hyperperiod-count-eq0.true in (
      largest_size (placed jobs) h c.requires.some count c.loop-count.auto.count c.if-hyperperiod-count-eq0.true c.loop-count.invariant (omega arith) c.if-write.ensures.finishes,
      subst (λ n. GreedyRows jobs (record { count = n; size = h / count }) c.write.new.self.rows.items) (sym back) c.if-write.ensures.rows,
    )

pub loop-count-preserved : goal.loop-count-preserved
loop-count-preserved c =
    let h = c.args.hyperperiod in
    let count = c.loop-count.count in
    let js : Jobs = placed c.args.jobs.now.list.items in
    let inv = c.loop-count.invariant in
    elim c.if-hyperperiod-count-eq0.branch [
      | then-hyperperiod-count-eq0+else-write w ↦
          tried_more js h count inv (λ d. one_more_tried js h c.requires.some count c.loop-count.auto.count d inv w.if-write.ensures.finishes)
      | else-hyperperiod-count-eq0 w ↦ tried_more js h count inv (λ d. absurd (w.if-hyperperiod-count-eq0.false d))
    ]

pub returns : goal.returns
returns c =
    let full : c.loop-count.count ≡ 257 = omega (arith, c.loop-count.auto.count-end (omega arith)) in
    let js : Jobs = placed c.args.jobs.now.list.items in
    every_size_overloaded js c.args.hyperperiod c.requires.some (subst (Tried js c.args.hyperperiod) full c.loop-count.invariant)
