use Rattle.std.specs.Prelude.{◌≡◌, ℕ, Bool, List, Result, MatchResult}
use Rattle.std.specs.List.{FoldsTo}
use Rattle.books.specs.Meaning.{Meaning}
use Rattle.books.specs.Questions.{Question, first_no, told}
use Rattle.books.specs.Sets.{Adds, Empty}
use Rattle.books.specs.declared.fault.EntryFault.{EntryFault}

-- A task was put to a book: where its questions get a yes, the book has the task from then on; where one gets a
-- no, the book is as it was.
abbrev pub PutTo : {B T : Type 0} → (B → Meaning) → (T → ℕ → List Question) → (T → ℕ → Bool) → B → T → B → Type 0
PutTo means questions allowed before task after =
    (answer : Result (Unit {0}) EntryFault)
    × (told answer ≡ first_no (questions task (means before).count))
    × MatchResult answer (λ _. Adds (means before) (means after) (allowed task)) (λ _. after ≡ before)

-- The book came of one of no tasks, to which the tasks were put in order.
pub record EnteredIn {B T : Type 0} (means : B → Meaning) (questions : T → ℕ → List Question) (allowed : T → ℕ → Bool) (tasks : List T) (book : B) : Type 0 where
  pub first : B
  pub empty : Empty (means first)
  pub put : FoldsTo (PutTo means questions allowed) first tasks book
