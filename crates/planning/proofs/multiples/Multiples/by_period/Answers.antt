use Rattle.std.proofs.Common.{◌+◌, arith}
use Rattle.planning.specs.Multiples.{asked}
use Rattle.planning.proofs.Lowering.{period_more}
use Rattle.planning.proofs.multiples.Multiples.by_period.Goals as goal

pub loop-period-preserved : goal.loop-period-preserved
loop-period-preserved g c =
    let inv = c.loop-period.invariant in
    let found = c.in-Some.ensures.least in
    let inside = c.in-Some.ensures.fair.inside c.args.self.now.task c.in-Some.period found.1 in
    let more =
    period_more (asked g.B.Book.means c.args.self.now) (c.args.self.now.limit + 1) c.loop-period.best inv.2
    c.loop-period.at c.in-Some.period c.div_ceil.result c.min-best.result inv.3 found inside.1
    c.div_ceil.ensures c.min-best.ensures
    in
    (omega arith, omega (arith, inside.2), more.0, more.1)
