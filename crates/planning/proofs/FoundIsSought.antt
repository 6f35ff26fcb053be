use Rattle.std.proofs.Common.{ℕ, List, Ok, Err, Option, Result, ap, inl, inr}
use Rattle.books.specs.Meaning.{Meaning}
use Rattle.planning.specs.declared.job.Figures.{Figures}
use Rattle.planning.specs.declared.refusal.Refusal.{Refusal}
use Rattle.planning.specs.Candidates.{Found}
use Rattle.planning.specs.Charges.{Charged}
use Rattle.planning.specs.Plans.{Sought as SoughtCharged}
use Rattle.planning.specs.Refusals.{CeilingInRange, CountInRange, Sought, number, place}

-- Where the questions before it got a yes, what the search finds is what is sought.
module _ (m : Meaning) (ceiling : ℕ) (low : CeilingInRange ceiling) (few : CountInRange m) where
  pub found_is_sought : (r : Result ℕ Refusal) → Found m ceiling r → Sought m ceiling r
  found_is_sought (Ok h) least = (low, few, least)
  found_is_sought (Err e) (is, none) = inr (ap number is, ap place is, low, few, none)

  pub found_for_charged : (figures : List (Option Figures)) → Charged figures m.count → (r : Result ℕ Refusal) → Found m ceiling r → SoughtCharged m figures ceiling r
  found_for_charged figures charged (Ok h) least = (low, few, charged, least)
  found_for_charged figures charged (Err e) (is, none) = inr (inr (inl (ap number is, ap place is, low, few, charged, none)))
