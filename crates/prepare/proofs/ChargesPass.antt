use Rattle.std.proofs.Common.{◌≡◌, ℕ, suc, ◌+◌, ◌-◌, ◌<◌, ◌≤◌, min, List, [], ◌∷◌, ◌++◌, map, length, set, replicate, All, Some, None, Option, sym, refl, ap, ◌∙◌, subst, inl, inr, ⊎_elim, append_assoc, append-nil, arith}
use Rattle.std.proofs.lemmas.List.{length-append, length-map, length_push, map_push, set_at}
use Rattle.std.proofs.lemmas.List.Elements.{All-append, All-head, All-tail}
use Rattle.std.proofs.lemmas.Bool.{cases_lt, true≢false}
use Rattle.std.proofs.lemmas.Bool.Decides.{nat_tests}
use Rattle.books.specs.Meaning.{Meaning}
use Rattle.planning.specs.declared.job.Figures.{Figures}
use Rattle.run.specs.Account.{Account, empty, hear, is_granted}
use Rattle.run.specs.Right.{PlanAnswer, charge_answer}
use Rattle.run.specs.declared.call.Answer.{Answer}
use Rattle.run.specs.declared.call.Answer.TheVariants.{Charged, Refused}
use Rattle.run.specs.declared.call.Call.{Call}
use Rattle.run.specs.declared.call.Call.TheVariants.{Charge, Plan}
use Rattle.run.specs.declared.refusal.Refusal.TheVariants.{TaskOutOfRange}
use Rattle.sheets.specs.Entries.{list_layout, range_layout}
use Rattle.sheets.specs.Sheets.{figures_in, tasks_of}
use Rattle.sheets.proofs.FiguresInRange.{InRange, lists_in_range, ranges_in_range}
use Rattle.prepare.specs.Charges.{Carried, Ends, charges_from}
use Rattle.prepare.specs.Prepared.{BothStand, LastAnswer, calls_of, figures_of_both, noted_figures, sheets_meaning}

-- The figures of a task more stand at the first place where none were noted.
noted_more : (done : List Figures) (f : Figures) (n : ℕ) → length done ≡ n → n < 16 → set (noted_figures done) n (Some f) ≡ noted_figures (done ++ f ∷ [])
noted_more done f n counted below =
    let front : List (Option Figures) = map Some done in
    let here : 16 - length done ≡ suc (15 - n) = omega arith in
    let behind : 15 - n ≡ 16 - length (done ++ f ∷ []) = omega (arith, length_push done f) in
    ap (λ places. set (front ++ replicate places None) n (Some f)) here
    ∙ set_at front None (replicate (15 - n) None) (Some f) n (length-map done Some ∙ counted)
    ∙ sym (append_assoc front (Some f ∷ []) (replicate (15 - n) None))
    ∙ ap (λ noted. noted ++ replicate (15 - n) None) (sym (map_push Some done f))
    ∙ ap (λ places. map Some (done ++ f ∷ []) ++ replicate places None) behind

-- A charge is granted to a task of the book below 16 with figures in range.
charge_passes : (count task : ℕ) (f : Figures) → task < count → task < 16 → InRange f → charge_answer count task f.cost f.deadline ≡ Charged
charge_passes count task f below few ranged = grind (arith, nat_tests)

-- No charge is granted from task 16 on.
past_refused : (count task : ℕ) (f : Figures) → 16 ≤ task → charge_answer count task f.cost f.deadline ≡ Refused (TaskOutOfRange task)
past_refused count task f past = grind (arith, nat_tests)

-- A granted charge is not the last answer, as the plan is still to come.
not_last : (answer : Answer) (calls : List Call) (ceiling : ℕ) → answer ≡ Charged → Ends answer (calls ++ Plan ceiling ∷ []) → ⊥
not_last answer calls ceiling is (inl refused) = true≢false (ap is_granted (sym is) ∙ refused)
not_last answer calls ceiling is (inr none) = omega (arith, length_push calls (Plan ceiling), ap length none)

module _ (m : Meaning) (figures : List Figures) (ceiling : ℕ) (answer : Answer) (after : Account) (counted : m.count ≡ min 17 (length figures)) where
  -- From an account with the first n figures noted on, the calls that are left come to the last answer.
  left_pass : (done left : List Figures) (n : ℕ) (a : Account) → length done ≡ n → done ++ left ≡ figures → n ≤ 16 → a.figures ≡ noted_figures done → All InRange left
      → Carried m a (charges_from n left ++ Plan ceiling ∷ []) answer after → LastAnswer m figures ceiling answer
  left_pass done [] n a sized split few noted ranged (inl last) =
      let all : done ≡ figures = sym (append-nil done) ∙ split in
      record {
        many = λ above. absurd (omega (arith, ap length all));
        few = λ below. subst (λ noted. PlanAnswer m noted ceiling answer) (noted ∙ ap noted_figures all) last.0;
      }
  left_pass done [] n a sized split few noted ranged (inr more) = absurd more.4
  left_pass done (f ∷ left) n a sized split few noted ranged (inl last) =
      let long : n < length figures = omega (arith, length-append done (f ∷ left), ap length split) in
      ⊎_elim
      (λ (below : n < 16). absurd (not_last answer (charges_from (n + 1) left) ceiling (last.0 ∙ charge_passes m.count n f (omega arith) below (All-head InRange f left ranged)) last.3))
      (λ (past : 16 ≤ n). record {
        many = λ above. last.0 ∙ past_refused m.count n f past ∙ ap (λ task. Refused (TaskOutOfRange task)) (omega arith);
        few = λ all. absurd (omega arith);
      })
      (cases_lt n 16)
  left_pass done (f ∷ left) n a sized split few noted ranged (inr more) =
      let long : n < length figures = omega (arith, length-append done (f ∷ left), ap length split) in
      ⊎_elim
      (λ (below : n < 16).
      let granted : more.0 ≡ Charged = more.2 ∙ charge_passes m.count n f (omega arith) below (All-head InRange f left ranged) in
      left_pass (done ++ f ∷ []) left (n + 1) (hear a (Charge n f.cost f.deadline) Charged)
      (omega (arith, length_push done f)) (append_assoc done (f ∷ []) left ∙ split) (omega arith)
      (ap (λ figures. set figures n (Some f)) noted ∙ noted_more done f n sized below) (All-tail InRange f left ranged)
      (subst (λ first. Carried m (hear a (Charge n f.cost f.deadline) first) (charges_from (n + 1) left ++ Plan ceiling ∷ []) answer after) granted more.4))
      (λ (past : 16 ≤ n). absurd (true≢false (sym more.1 ∙ ap is_granted (more.2 ∙ past_refused m.count n f past))))
      (cases_lt n 16)

-- The book of two sheets counts their tasks, up to 17.
tasks_counted : (ranges lists : List ℕ) (step : ℕ) → (sheets_meaning ranges lists step).count ≡ min 17 (length (figures_of_both ranges lists))
tasks_counted ranges lists step = simp (length-append, length-map)

-- Of two sheets that are not refused no charge is refused but that of a seventeenth task.
pub charges_pass : (ranges lists : List ℕ) (step ceiling : ℕ) (answer : Answer) (after : Account) → BothStand ranges lists
    → Carried (sheets_meaning ranges lists step) empty (calls_of ranges lists ceiling) answer after
    → LastAnswer (sheets_meaning ranges lists step) (figures_of_both ranges lists) ceiling answer
charges_pass ranges lists step ceiling answer after stand carried =
    let figures = figures_of_both ranges lists in
    left_pass (sheets_meaning ranges lists step) figures ceiling answer after (tasks_counted ranges lists step)
    [] figures 0 empty refl refl (omega arith) refl
    (All-append InRange (figures_in (tasks_of range_layout ranges)) (figures_in (tasks_of list_layout lists)) (ranges_in_range ranges stand.0) (lists_in_range lists stand.1))
    carried
