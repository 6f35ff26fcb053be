use Rattle.std.proofs.Common.{refl}
use Rattle.run.proofs.Agreement.{carries_same, row_found}
use Rattle.run.proofs.planner.Planner.row.Goals as goal

pub returns : goal.returns
returns g c =
    let p = c.args.self.now in
    carries_same g.B.Book.means p _ _ (λ a. refl) (λ a h.
    rw c.row.ensures (row_found (g.B.Book.means p.book) c.in_ok-standing.field-0.now a.plan c.args.index (c.in_ok-standing.ensures a h)))
