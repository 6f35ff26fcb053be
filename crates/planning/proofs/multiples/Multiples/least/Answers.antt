use Rattle.std.proofs.Common.{arith}
use Rattle.planning.specs.Multiples.{asked}
use Rattle.planning.proofs.Lowering.{bounds_serving}
use Rattle.planning.proofs.multiples.Multiples.least.Goals as goal

pub returns-else-best-self : goal.returns-else-best-self
returns-else-best-self g c n low high =
    bounds_serving (asked g.B.Book.means c.args.self.now) c.by_all-best.result c.by_all-best.ensures.bounds n low (omega arith)
