use Rattle.printer.proofs.StandingPrinted.{standing_printed}
use Rattle.printer.proofs.printing.print.Goals as goal

pub returns : goal.returns
returns g c a agrees =
    standing_printed (g.B.Book.means c.args.planner.now.book) a.plan c.in_ok-plan.plan.now c.args.out.now c.print_plan.new.out c.print_plan.result
    (rw c.in_ok-plan.ensures.ok_part at (c.standing.ensures a agrees)) c.print_plan.ensures
