use Rattle.std.proofs.Common.{arith}
use Rattle.planning.specs.Hyperperiod.{Chosen}
use Rattle.planning.proofs.Writes.{each_more_pushed}
use Rattle.planning.proofs.periods.chosen_periods.Goals as goal

pub loop-task-preserved : goal.loop-task-preserved
loop-task-preserved g c = (
  omega (arith, c.push.ensures.len, c.loop-task.invariant.0),
  rw c.push.ensures.items
      (each_more_pushed (Chosen (g.B.Book.means c.args.book.now) c.args.number) c.loop-task.periods.items c.loop-task.task c.in-Some.period 0
      c.loop-task.invariant.0 c.loop-task.invariant.1 c.in-Some.ensures.2),
)
