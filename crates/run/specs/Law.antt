use Rattle.std.specs.Prelude.{List, [], ◌∷◌}
use Rattle.books.specs.Meaning.{Meaning}
use Rattle.run.specs.declared.call.Answer.{Answer}
use Rattle.run.specs.declared.call.Call.{Call}
use Rattle.run.specs.Account.{Account, hear}
use Rattle.run.specs.Kept.{Kept}
use Rattle.run.specs.Right.{Right}

-- The law over a run of calls from an account on: each answer is right by the account before it, and what is kept
-- holds of the account after it.
abbrev pub Lawful : Meaning → Account → List Call → List Answer → Type 0
Lawful m a [] [] = Unit {0}
Lawful m a [] (answer ∷ answers) = ⊥
Lawful m a (call ∷ calls) [] = ⊥
Lawful m a (call ∷ calls) (answer ∷ answers) =
    Right m a call answer × Kept m (hear a call answer) × Lawful m (hear a call answer) calls answers
