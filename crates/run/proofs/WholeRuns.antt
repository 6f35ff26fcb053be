use Rattle.std.proofs.Common.{◌≡◌, ℕ, ◌+◌, ◌<◌, List, [], ◌∷◌, ◌++◌, length, get_or, take, sym, refl, ◌∙◌, subst}
use Rattle.std.proofs.lemmas.List.{take_more}
use Rattle.books.specs.Meaning.{Meaning}
use Rattle.run.specs.declared.call.Answer.{Answer}
use Rattle.run.specs.declared.call.Call.{Call}
use Rattle.run.specs.declared.planner.Planner.{Planner}
use Rattle.run.specs.Account.{Account, empty, hear}
use Rattle.run.specs.Agrees.{Agrees, Carries}
use Rattle.run.specs.Kept.{Kept}
use Rattle.run.specs.Law.{Lawful}
use Rattle.run.specs.Right.{Right}

-- the account after a list of calls and their answers
abbrev pub heard_all : Account → List Call → List Answer → Account
heard_all a [] [] = a
heard_all a [] (answer ∷ answers) = a
heard_all a (call ∷ calls) [] = a
heard_all a (call ∷ calls) (answer ∷ answers) = heard_all (hear a call answer) calls answers

module _ (m : Meaning) (call : Call) (answer : Answer) where
  -- one more call, with a right answer, keeps the law
  lawful_more : (a : Account) (calls : List Call) (answers : List Answer) → Lawful m a calls answers → Right m (heard_all a calls answers) call answer → Kept m (hear (heard_all a calls answers) call answer) → Lawful m a (calls ++ call ∷ []) (answers ++ answer ∷ [])
  lawful_more a [] [] so_far right kept = (right, kept, tt)
  lawful_more a [] (r ∷ rs) so_far right kept = absurd so_far
  lawful_more a (c ∷ cs) [] so_far right kept = absurd so_far
  lawful_more a (c ∷ cs) (r ∷ rs) so_far right kept =
      (so_far.0, so_far.1, lawful_more (hear a c r) cs rs so_far.2 right kept)

  -- and is heard last
  heard_more : (a : Account) (calls : List Call) (answers : List Answer) → Lawful m a calls answers → heard_all a (calls ++ call ∷ []) (answers ++ answer ∷ []) ≡ hear (heard_all a calls answers) call answer
  heard_more a [] [] so_far = refl
  heard_more a [] (r ∷ rs) so_far = absurd so_far
  heard_more a (c ∷ cs) [] so_far = absurd so_far
  heard_more a (c ∷ cs) (r ∷ rs) so_far = heard_more (hear a c r) cs rs so_far.2

-- A list of calls is carried out as far as its first i: the answers so far keep the law, and the planner agrees
-- with what was heard.
pub record CarriedOut {B : Type 0} (meaning : B → Meaning) (book : B) (calls : List Call) (i : ℕ) (answers : List Answer) (p : Planner B) : Type 0 where
  pub same : p.book ≡ book
  pub lawful : Lawful (meaning book) empty (take i calls) answers
  pub agrees : Agrees meaning p (heard_all empty (take i calls) answers)

module _ {B : Type 0} (meaning : B → Meaning) (book : B) (calls : List Call) where
  pub one_more_carried_out : (i : ℕ) (answers : List Answer) (p q : Planner B) (answer : Answer) (d : Call) → i < length calls → CarriedOut meaning book calls i answers p → Carries meaning p q (get_or calls i d) answer → CarriedOut meaning book calls (i + 1) (answers ++ answer ∷ []) q
  one_more_carried_out i answers p q answer d inside before step =
      let call = get_or calls i d in
      let a : Account = heard_all empty (take i calls) answers in
      let m : Meaning = meaning book in
      let more : take (i + 1) calls ≡ take i calls ++ call ∷ [] = take_more calls i d inside in
      let right = subst (λ b. Right (meaning b) a call answer) before.same (step.right a before.agrees) in
      let kept = subst (λ b. Kept (meaning b) (hear a call answer)) before.same (step.kept a before.agrees) in
      let lawful = lawful_more m call answer empty (take i calls) answers before.lawful right kept in
      let heard = heard_more m call answer empty (take i calls) answers before.lawful in
      record {
        same = step.same ∙ before.same;
        lawful = subst (λ l. Lawful m empty l (answers ++ answer ∷ [])) (sym more) lawful;
        agrees =
            subst (λ l. Agrees meaning q (heard_all empty l (answers ++ answer ∷ []))) (sym more)
            (subst (Agrees meaning q) (sym heard) (step.agrees a before.agrees));
      }
