use Rattle.std.proofs.Common.{◌≡◌, ◌+◌, drop}
use Rattle.books.specs.Questions.{first_no, period_questions}
use Rattle.books.proofs.list_book.entry.check_numbers.Given as goal

abbrev pub invariant-loop-k : goal.invariant-loop-k
invariant-loop-k l = first_no (period_questions (5 + l.k) (drop l.k l.periods)) ≡ first_no (period_questions 5 l.periods)
