use Rattle.std.proofs.Common.{◌≡◌, ℕ, zero, suc, ◌≤◌, List, [], ◌∷◌, ◌++◌, length, get_or, take, sym, refl, ap, ◌∙◌, subst, arith, take-suc}
use Rattle.std.proofs.Math.Seq.{take-length}
use Rattle.printer.specs.Text.{periods_to}

-- The first of a list that is long enough are the periods of the first tasks, read place by place.
first_periods : (n : ℕ) (periods : List ℕ) → n ≤ length periods → take n periods ≡ periods_to n (λ task. get_or periods task 0)
first_periods zero periods wide = refl
first_periods (suc n) periods wide =
    take-suc periods n 0 (omega arith) ∙ ap (λ l. l ++ get_or periods n 0 ∷ []) (first_periods n periods (omega arith))

-- As many as there are tasks are the periods of all.
pub periods_taken : (n : ℕ) (periods found : List ℕ) → found ≡ periods → length found ≡ n → found ≡ periods_to n (λ task. get_or periods task 0)
periods_taken n periods found same count =
    let all : length periods ≡ n = ap length (sym same) ∙ count in
    same ∙ subst (λ k. periods ≡ take k periods) all (sym (take-length periods)) ∙ first_periods n periods (omega arith)
