use Rattle.std.proofs.Common.{ℕ, ◌*◌, ◌≤◌}
use Rattle.planning.specs.Hyperperiod.{AllowedDivisor}
use Rattle.planning.proofs.chosen.chosen_period.Given as goal

-- no allowed divisor has a quotient below `times`
abbrev pub invariant-loop-times : goal.invariant-loop-times
invariant-loop-times g l =
    (q : ℕ) → AllowedDivisor (g.B.Book.means l.book) l.number l.task q → l.times * q ≤ l.number
