use Rattle.std.proofs.Common.{◌-◌, ◌≤◌, sum_by}
use Rattle.orders.specs.Held.{held}
use Rattle.orders.specs.Models.{candidate_le}
use Rattle.orders.specs.Order.{Sound}
use Rattle.planning.specs.Candidates.{Searched}
use Rattle.planning.proofs.hyperperiod.Search.agreement.Given as goal

abbrev pub invariant-loop-least : goal.invariant-loop-least
invariant-loop-least g l =
    (1 ≤ l.highest) × (l.highest ≤ l.self.ceiling) × Sound candidate_le (held l.candidates) × Searched (g.B.Book.means l.self.book.now) l.highest (held l.candidates)

-- each turn moves one candidate up
abbrev pub decreases-loop-least : goal.decreases-loop-least
decreases-loop-least g l = sum_by (λ c. l.self.ceiling - c.number) (held l.candidates)
