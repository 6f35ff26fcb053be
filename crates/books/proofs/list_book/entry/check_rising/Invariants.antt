use Rattle.std.proofs.Common.{◌≡◌, ◌+◌, drop}
use Rattle.books.specs.Questions.{first_no, above_questions, rising_questions}
use Rattle.books.proofs.list_book.entry.check_rising.Given as goal

abbrev pub invariant-loop-k : goal.invariant-loop-k
invariant-loop-k l = first_no (above_questions (6 + l.k) l.before (drop l.k l.rest)) ≡ first_no (rising_questions 5 l.periods)
