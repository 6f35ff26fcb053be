use Rattle.std.proofs.Common.{◌≡◌, ℕ, ◌-◌, ◌%◌, ◌<◌, ◌≤◌, true}
use Rattle.books.proofs.grid.GridBook.next_allowed.Given as goal

abbrev pub invariant-loop-at : goal.invariant-loop-at
invariant-loop-at g l =
    (l.from ≤ l.at)
    × ((n : ℕ) → l.from ≤ n → n < l.at → (g.B.Book.means l.self.book).allowed l.task n ≡ true → n % l.step ≡ 0 → ⊥)

abbrev pub decreases-loop-at : goal.decreases-loop-at
decreases-loop-at g l = 200001 - l.at
