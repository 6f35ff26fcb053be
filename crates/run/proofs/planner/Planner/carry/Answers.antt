use Rattle.std.proofs.Common.{rules}
use Rattle.run.specs.Agrees.{came, planned, rewound}
use Rattle.run.proofs.Agreement.{answered}
use Rattle.run.proofs.planner.Planner.carry.Goals as goal

pub returns-in-Plan : goal.returns-in-Plan
returns-in-Plan g c =
    rw c.in-Plan.is
    (answered g.B.Book.means _ _ _ planned c.plan.result _ c.plan.ensures c.map_or_else-in-Plan.ensures (λ x h. search rules) (λ e h. search rules))

pub returns-in-Rewind : goal.returns-in-Rewind
returns-in-Rewind g c =
    rw c.in-Rewind.is
    (answered g.B.Book.means _ _ _ rewound c.rewind.result _ c.rewind.ensures c.map_or_else-in-Rewind.ensures (λ x h. search rules) (λ e h. search rules))

pub returns-in-Next : goal.returns-in-Next
returns-in-Next g c =
    rw c.in-Next.is
    (answered g.B.Book.means _ _ _ came c.next.result _ c.next.ensures c.map_or_else-in-Next.ensures (λ x h. search rules) (λ e h. search rules))
