use Rattle.std.proofs.Common.{◌≡◌, ℕ, ◌+◌, ◌<◌, List, ◌∷◌, ◌++◌, length, get_or, drop, sym, refl, ap, ◌∙◌, subst, inr, arith}
use Rattle.std.proofs.lemmas.List.{drop_more}
use Rattle.books.specs.Meaning.{Meaning}
use Rattle.planning.specs.declared.job.Figures.{Figures}
use Rattle.run.specs.Account.{Account, hear}
use Rattle.run.specs.Agrees.{Agrees, Carries}
use Rattle.run.specs.Kept.{Kept}
use Rattle.run.specs.Right.{Right}
use Rattle.run.specs.declared.call.Answer.{Answer}
use Rattle.run.specs.declared.call.Answer.TheVariants.{Charged}
use Rattle.run.specs.declared.call.Call.{Call}
use Rattle.run.specs.declared.call.Call.TheVariants.{Charge}
use Rattle.run.specs.declared.planner.Planner.{Planner}
use Rattle.prepare.specs.Charges.{Carried, charges_from}

-- The first k charges are granted: carrying out the others, and any calls after them, carries out all.
abbrev pub GrantedTo : {B : Type 0} → (B → Meaning) → Planner B → Planner B → ℕ → List Figures → ℕ → Type 0
GrantedTo means p q first figures k =
    (q.book ≡ p.book)
    × ((a : Account) → Agrees means p a
    → (b : Account) × Agrees means q b
    × ((rest : List Call) (answer : Answer) (after : Account)
    → Carried (means p.book) b (charges_from (first + k) (drop k figures) ++ rest) answer after
    → Carried (means p.book) a (charges_from first figures ++ rest) answer after))

-- The figures that stand beyond the list.
abbrev pub beyond : Figures
beyond = record { cost = 0; deadline = 0 }

-- What is left of the charges begins with the next one.
next_charge : (first : ℕ) (figures : List Figures) (k : ℕ) (rest : List Call) → k < length figures
    → charges_from (first + k) (drop k figures) ++ rest
    ≡ Charge (first + k) (get_or figures k beyond).cost (get_or figures k beyond).deadline ∷ (charges_from (first + (k + 1)) (drop (k + 1) figures) ++ rest)
next_charge first figures k rest h =
    let here = Charge (first + k) (get_or figures k beyond).cost (get_or figures k beyond).deadline in
    let on : first + k + 1 ≡ first + (k + 1) = omega arith in
    ap (λ left. charges_from (first + k) left ++ rest) (drop_more figures k beyond h) ∙ ap (λ n. here ∷ (charges_from n (drop (k + 1) figures) ++ rest)) on

pub charge_granted : {B : Type 0} (means : B → Meaning) (p q r : Planner B) (first : ℕ) (figures : List Figures) (k : ℕ) → k < length figures
    → GrantedTo means p q first figures k
    → Carries means q r (Charge (first + k) (get_or figures k beyond).cost (get_or figures k beyond).deadline) Charged
    → GrantedTo means p r first figures (k + 1)
charge_granted means p q r first figures k below before here = (
  here.same ∙ before.0,
  λ a agrees.
      let b = before.1 a agrees in
      let call = Charge (first + k) (get_or figures k beyond).cost (get_or figures k beyond).deadline in (
        hear b.0 call Charged,
        here.agrees b.0 b.1,
        λ rest answer after carried. b.2 rest answer after
            (subst (λ calls. Carried (means p.book) b.0 calls answer after) (sym (next_charge first figures k rest below))
            (inr (
              Charged,
              refl,
              subst (λ book. Right (means book) b.0 call Charged) before.0 (here.right b.0 b.1),
              subst (λ book. Kept (means book) (hear b.0 call Charged)) before.0 (here.kept b.0 b.1),
              carried,
            ))),
      ),
)
