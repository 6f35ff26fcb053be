use Rattle.std.specs.Prelude.{◌≡◌, ℕ, ◌+◌, true, false, ◌⊎◌, List, [], ◌∷◌, ◌++◌, Some, Ok, Err, Option, Result}
use Rattle.books.specs.Meaning.{Meaning}
use Rattle.planning.specs.declared.job.Figures.{Figures}
use Rattle.run.specs.Account.{Account, hear, is_granted}
use Rattle.run.specs.Agrees.{Agrees, planned}
use Rattle.run.specs.Kept.{Kept}
use Rattle.run.specs.Right.{Right}
use Rattle.run.specs.declared.call.Answer.{Answer}
use Rattle.run.specs.declared.call.Answer.TheVariants.{Refused}
use Rattle.run.specs.declared.call.Call.{Call}
use Rattle.run.specs.declared.call.Call.TheVariants.{Charge, Plan}
use Rattle.run.specs.declared.planner.Planner.{Planner}
use Rattle.run.specs.declared.planner.calls.Granted.{Granted}
use Rattle.run.specs.declared.refusal.Refusal.{Refusal}
use Rattle.prepare.specs.declared.fault.PrepareFault.{PrepareFault}
use Rattle.prepare.specs.declared.fault.PrepareFault.TheVariants.{InPlanner, InSheet}

-- A charge for each task's figures, in order, the first task being the given one.
abbrev pub charges_from : ℕ → List Figures → List Call
charges_from task [] = []
charges_from task (f ∷ rest) = Charge task f.cost f.deadline ∷ charges_from (task + 1) rest

-- Every task is charged in order from task 0, and then planned.
abbrev pub calls_for : List Figures → ℕ → List Call
calls_for figures ceiling = charges_from 0 figures ++ Plan ceiling ∷ []

-- An answer is the last of a list of calls where it is a refusal, or no call is left.
abbrev pub Ends : Answer → List Call → Type 0
Ends answer rest = (is_granted answer ≡ false) ⊎ (rest ≡ [])

-- Calls carried out one after the other from an account on, until one is refused or none is left, by the law of the
-- planner: every answer is right, and what is kept holds; this is the last answer, and the account after it.
abbrev pub Carried : Meaning → Account → List Call → Answer → Account → Type 0
Carried m a [] answer after = ⊥
Carried m a (call ∷ rest) answer after =
    (Right m a call answer × Kept m (hear a call answer) × (after ≡ hear a call answer) × Ends answer rest)
    ⊎ ((first : Answer) × (is_granted first ≡ true) × Right m a call first × Kept m (hear a call first) × Carried m (hear a call first) rest answer after)

-- Charges made: all are granted, and carrying out any calls after them carries out all; or one is refused, which is
-- the last answer of them all.
abbrev pub ChargesMade : {B : Type 0} → (B → Meaning) → Planner B → Planner B → ℕ → List Figures → Result (Unit {0}) Refusal → Type 0
ChargesMade means p q first figures (Ok done) =
    (q.book ≡ p.book)
    × ((a : Account) → Agrees means p a
    → (b : Account) × Agrees means q b
    × ((rest : List Call) (answer : Answer) (after : Account)
    → Carried (means p.book) b rest answer after → Carried (means p.book) a (charges_from first figures ++ rest) answer after))
ChargesMade means p q first figures (Err refusal) =
    (a : Account) → Agrees means p a
    → (rest : List Call) → (after : Account) × Carried (means p.book) a (charges_from first figures ++ rest) (Refused refusal) after

-- The plan that stands in an account is the one granted.
abbrev pub StandsAsGranted : Account → Granted → Type 0
StandsAsGranted a granted =
    (figures : List (Option Figures)) × (a.plan ≡ Some (record { hyperperiod = granted.hyperperiod; size = granted.frame_size; figures = figures }))

-- Every task charged and planned: the last answer, and after a grant a planner that agrees with the account after it,
-- in which the plan granted stands.
abbrev pub PlanMade : {B : Type 0} → (B → Meaning) → Planner B → Planner B → List Figures → ℕ → Result Granted PrepareFault → Type 0
PlanMade means p q figures ceiling (Ok granted) =
    (q.book ≡ p.book)
    × ((a : Account) → Agrees means p a
    → (after : Account) × Carried (means p.book) a (calls_for figures ceiling) (planned (Ok granted)) after × StandsAsGranted after granted × Agrees means q after)
PlanMade means p q figures ceiling (Err (InSheet sheet fault)) = ⊥
PlanMade means p q figures ceiling (Err (InPlanner refusal)) =
    (a : Account) → Agrees means p a
    → (after : Account) × Carried (means p.book) a (calls_for figures ceiling) (Refused refusal) after
