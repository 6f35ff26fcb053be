use Rattle.std.proofs.Common.{refl}
use Rattle.run.proofs.Agreement.{carries_same, period_found}
use Rattle.run.proofs.planner.Planner.period.Goals as goal

pub returns : goal.returns
returns g c =
    let p = c.args.self.now in
    carries_same g.B.Book.means p _ _ (λ a. refl) (λ a h.
    rw c.period.ensures (period_found (g.B.Book.means p.book) c.in_ok-standing.field-0.now a.plan c.args.task (c.in_ok-standing.ensures a h)))
