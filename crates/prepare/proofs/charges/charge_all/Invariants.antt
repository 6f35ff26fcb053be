use Rattle.prepare.proofs.Charging.{GrantedTo}
use Rattle.prepare.proofs.charges.charge_all.Given as goal

abbrev pub invariant-loop-k : goal.invariant-loop-k
invariant-loop-k g l = GrantedTo g.B.Book.means l.initial.planner l.planner l.first l.figures l.k
