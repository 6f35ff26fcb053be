use Rattle.prepare.proofs.Charging.{charge_granted}
use Rattle.prepare.proofs.charges.charge_all.Goals as goal

pub loop-k-preserved : goal.loop-k-preserved
loop-k-preserved g c =
    charge_granted g.B.Book.means c.args.planner.now c.loop-k.planner c.charge.new.self c.args.first c.args.figures.now c.loop-k.k
    c.loop-k-test.true c.loop-k.invariant c.in_ok-charge.ensures
