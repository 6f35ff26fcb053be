use Rattle.std.proofs.Common.{◌≡◌, ℕ, ◌<◌, get_or}
use Rattle.arrayvec.specs.ArrayVec.{array_vec_len}
use Rattle.planning.specs.Hyperperiod.{Chosen}
use Rattle.planning.proofs.periods.chosen_periods.Given as goal

abbrev pub invariant-loop-task : goal.invariant-loop-task
invariant-loop-task g l =
    (array_vec_len l.periods ≡ l.task) × ((t : ℕ) → t < l.task → Chosen (g.B.Book.means l.book) l.number t (get_or l.periods.items t 0))
