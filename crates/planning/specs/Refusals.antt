use Rattle.std.specs.Prelude.{◌≡◌, ℕ, ◌≤◌, ◌⊎◌, Ok, Err, Result}
use Rattle.books.specs.Meaning.{Meaning}
use Rattle.planning.specs.declared.refusal.Refusal.{Refusal}
use Rattle.planning.specs.declared.refusal.Refusal.TheVariants.{CeilingOutOfRange, CountOutOfRange, TaskWithoutFigures, NothingServes, TooManyJobs, EverySizeFails}
use Rattle.planning.specs.Hyperperiod.{LeastHyperperiod, NoneServes}

-- Each refusal's number: that of the question which got a no.
abbrev pub number : Refusal → ℕ
number CeilingOutOfRange = 4
number CountOutOfRange = 5
number (TaskWithoutFigures task) = 6
number NothingServes = 7
number TooManyJobs = 8
number EverySizeFails = 9

-- Each refusal's place: the task that it is about, or 0.
abbrev pub place : Refusal → ℕ
place CeilingOutOfRange = 0
place CountOutOfRange = 0
place (TaskWithoutFigures task) = task
place NothingServes = 0
place TooManyJobs = 0
place EverySizeFails = 0

-- Question 4: the ceiling is from 1 to 1,000,000.
abbrev pub CeilingInRange : ℕ → Type 0
CeilingInRange ceiling = (1 ≤ ceiling) × (ceiling ≤ 1000000)

-- Question 5: the book has from 1 to 16 tasks.
abbrev pub CountInRange : Meaning → Type 0
CountInRange m = (1 ≤ m.count) × (m.count ≤ 16)

-- Question 4 or 5 got a no: this number and place are due, the first no first.
abbrev pub RangeDue : Meaning → ℕ → ℕ → ℕ → Type 0
RangeDue m ceiling n at_place =
    ((n ≡ 4) × (at_place ≡ 0) × (CeilingInRange ceiling → ⊥)) ⊎ ((n ≡ 5) × (at_place ≡ 0) × CeilingInRange ceiling × (CountInRange m → ⊥))

-- The refusal that is due when the least hyperperiod is sought, with its number and place: the questions are
-- put in their order, and the first no ends the call.
abbrev pub SeekDue : Meaning → ℕ → ℕ → ℕ → Type 0
SeekDue m ceiling n at_place =
    RangeDue m ceiling n at_place ⊎ ((n ≡ 7) × (at_place ≡ 0) × CeilingInRange ceiling × CountInRange m × NoneServes m ceiling)

-- What seek answers for a book of this meaning under this ceiling: the least hyperperiod where no
-- refusal is due, and else the refusal that is.
abbrev pub Sought : Meaning → ℕ → Result ℕ Refusal → Type 0
Sought m ceiling (Ok h) = CeilingInRange ceiling × CountInRange m × LeastHyperperiod m ceiling h
Sought m ceiling (Err refusal) = SeekDue m ceiling (number refusal) (place refusal)
