use Rattle.std.proofs.Common.{◌≡◌, ℕ, true, false, cond, List, [], ◌∷◌, ◌++◌, Some, None, refl, arith}
use Rattle.books.specs.Questions.{Question, Refused, refused_by, first_no}

-- Where the first questions are answered yes, what the others say is said.
pub first_all_yes : (qs rs : List Question) → first_no qs ≡ None → first_no (qs ++ rs) ≡ first_no rs
first_all_yes [] rs h = refl
first_all_yes (q ∷ qs) rs h =
    (elim q.yes as (λ b. cond b (first_no qs) (Some (refused_by q)) ≡ None → cond b (first_no (qs ++ rs)) (Some (refused_by q)) ≡ first_no rs) [ true ↦ first_all_yes qs rs | false ↦ λ e. let z : ◌≡◌ {A = ℕ} 0 1 = cc in absurd (omega arith) ]) h

-- A no among the first questions is the first of all.
pub first_some_no : (qs rs : List Question) (x : Refused) → first_no qs ≡ Some x → first_no (qs ++ rs) ≡ Some x
first_some_no [] rs x h = let z : ◌≡◌ {A = ℕ} 0 1 = cc in absurd (omega arith)
first_some_no (q ∷ qs) rs x h =
    (elim q.yes as (λ b. cond b (first_no qs) (Some (refused_by q)) ≡ Some x → cond b (first_no (qs ++ rs)) (Some (refused_by q)) ≡ Some x) [ true ↦ first_some_no qs rs x | false ↦ λ e. e ]) h

-- Where all questions are answered yes, the first is and the others are.
pub all_yes : (q : Question) (qs : List Question) → first_no (q ∷ qs) ≡ None → (q.yes ≡ true) × (first_no qs ≡ None)
all_yes q qs h =
    (elim q.yes as (λ b. cond b (first_no qs) (Some (refused_by q)) ≡ None → (b ≡ true) × (first_no qs ≡ None)) [ true ↦ λ e. (refl, e) | false ↦ λ e. let z : ◌≡◌ {A = ℕ} 0 1 = cc in absurd (omega arith) ]) h
