use Rattle.std.proofs.Common.{rules}
use Rattle.books.proofs.Multiples.{no_multiple_below}
use Rattle.books.proofs.grid.GridBook.next_allowed.Goals as goal

pub returns-then-task-count : goal.returns-then-task-count
returns-then-task-count g c = search (rules, no_multiple_below)
