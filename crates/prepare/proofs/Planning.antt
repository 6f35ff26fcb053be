use Rattle.std.proofs.Common.{◌≡◌, ℕ, ◌+◌, List, [], ◌∷◌, ◌++◌, length, Ok, Err, sym, refl, ap, ◌∙◌, subst, inl, inr, append_assoc, arith}
use Rattle.books.specs.Meaning.{Meaning}
use Rattle.planning.specs.declared.job.Figures.{Figures}
use Rattle.run.specs.Account.{Account, hear}
use Rattle.run.specs.Agrees.{Agrees, Carries}
use Rattle.run.specs.Kept.{Kept}
use Rattle.run.specs.Right.{Right}
use Rattle.run.specs.declared.call.Answer.{Answer}
use Rattle.run.specs.declared.call.Answer.TheVariants.{Refused}
use Rattle.run.specs.declared.call.Call.TheVariants.{Charge, Plan}
use Rattle.run.specs.declared.planner.Planner.{Planner}
use Rattle.run.specs.declared.refusal.Refusal.{Refusal}
use Rattle.prepare.specs.Charges.{Carried, ChargesMade, PlanMade, calls_for, charges_from}
use Rattle.prepare.specs.declared.fault.PrepareFault.TheVariants.{InPlanner}

-- The charges of two lists, one after the other.
charges_append : (first second : ℕ) (xs ys : List Figures) → first + length xs ≡ second → charges_from first (xs ++ ys) ≡ charges_from first xs ++ charges_from second ys
charges_append first second [] ys on = ap (λ n. charges_from n ys) (omega (arith, on))
charges_append first second (x ∷ xs) ys on = ap (◌∷◌ (Charge first x.cost x.deadline)) (charges_append (first + 1) second xs ys (omega (arith, on)))

-- All calls, as the charges of two lists and then the plan.
calls_split : (n : ℕ) (xs ys : List Figures) (ceiling : ℕ) → length xs ≡ n → charges_from 0 xs ++ (charges_from n ys ++ Plan ceiling ∷ []) ≡ calls_for (xs ++ ys) ceiling
calls_split n xs ys ceiling on =
    sym (append_assoc (charges_from 0 xs) (charges_from n ys) (Plan ceiling ∷ []))
    ∙ ap (λ calls. calls ++ Plan ceiling ∷ []) (sym (charges_append 0 n xs ys (omega (arith, on))))

pub first_refused : {B : Type 0} (means : B → Meaning) (p q : Planner B) (xs ys : List Figures) (ceiling : ℕ) (refusal : Refusal)
    → ChargesMade means p q 0 xs (Err refusal) → PlanMade means p q (xs ++ ys) ceiling (Err (InPlanner refusal))
first_refused means p q xs ys ceiling refusal made = λ a agrees.
    let r = made a agrees (charges_from (length xs) ys ++ Plan ceiling ∷ []) in
    (r.0, subst (λ calls. Carried (means p.book) a calls (Refused refusal) r.0) (calls_split (length xs) xs ys ceiling refl) r.1)

-- Calls that begin with the first charges, which are granted, and go on with the second.
through_first : {B : Type 0} (means : B → Meaning) (p q : Planner B) (n : ℕ) (xs ys : List Figures) (ceiling : ℕ) (answer : Answer) (a after : Account) → length xs ≡ n
    → (first : ChargesMade means p q 0 xs (Ok tt)) (agrees : Agrees means p a)
    → Carried (means q.book) (first.1 a agrees).0 (charges_from n ys ++ Plan ceiling ∷ []) answer after
    → Carried (means p.book) a (calls_for (xs ++ ys) ceiling) answer after
through_first means p q n xs ys ceiling answer a after on first agrees carried =
    let b = first.1 a agrees in
    subst (λ calls. Carried (means p.book) a calls answer after) (calls_split n xs ys ceiling on)
    (b.2 (charges_from n ys ++ Plan ceiling ∷ []) answer after
    (subst (λ book. Carried (means book) b.0 (charges_from n ys ++ Plan ceiling ∷ []) answer after) first.0 carried))

pub second_refused : {B : Type 0} (means : B → Meaning) (p q r : Planner B) (n : ℕ) (xs ys : List Figures) (ceiling : ℕ) (refusal : Refusal) → length xs ≡ n
    → ChargesMade means p q 0 xs (Ok tt) → ChargesMade means q r n ys (Err refusal) → PlanMade means p r (xs ++ ys) ceiling (Err (InPlanner refusal))
second_refused means p q r n xs ys ceiling refusal on first second = λ a agrees.
    let b = first.1 a agrees in
    let s = second b.0 b.1 (Plan ceiling ∷ []) in
    (s.0, through_first means p q n xs ys ceiling (Refused refusal) a s.0 on first agrees s.1)

-- Every charge is granted and the plan is answered: that is the last answer, and the planner agrees with the account
-- after it.
pub planned_last : {B : Type 0} (means : B → Meaning) (p q r s : Planner B) (n : ℕ) (xs ys : List Figures) (ceiling : ℕ) (answer : Answer) → length xs ≡ n
    → ChargesMade means p q 0 xs (Ok tt) → ChargesMade means q r n ys (Ok tt) → Carries means r s (Plan ceiling) answer
    → (a : Account) → Agrees means p a
    → (after : Account) × Carried (means p.book) a (calls_for (xs ++ ys) ceiling) answer after × ((b : Account) × (after ≡ hear b (Plan ceiling) answer)) × Agrees means s after
planned_last means p q r s n xs ys ceiling answer on first second here a agrees =
    let b = first.1 a agrees in
    let d = second.1 b.0 b.1 in
    let after = hear d.0 (Plan ceiling) answer in
    let last : Carried (means q.book) d.0 (Plan ceiling ∷ []) answer after = inl (
      subst (λ book. Right (means book) d.0 (Plan ceiling) answer) second.0 (here.right d.0 d.1),
      subst (λ book. Kept (means book) after) second.0 (here.kept d.0 d.1),
      refl,
      inr refl,
    ) in
    (after, through_first means p q n xs ys ceiling answer a after on first agrees (d.2 (Plan ceiling ∷ []) answer after last), (d.0, refl), here.agrees d.0 d.1)
