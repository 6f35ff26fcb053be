use Rattle.std.proofs.Common.{sym, arith}
use Rattle.printer.proofs.DecimalLength.{digit_length, power_length}
use Rattle.printer.proofs.line.digits.Goals as goal

pub returns-then-n-lt10-clause-count : goal.returns-then-n-lt10-clause-count
returns-then-n-lt10-clause-count c = sym (digit_length c.args.n c.if-n-lt10.true)

pub returns-clause-count : goal.returns-clause-count
returns-clause-count c =
    sym (power_length c.ilog10.result c.args.n c.ilog10.ensures.power_le c.ilog10.ensures.next_power_gt (omega arith))
