use Rattle.std.proofs.Common.{◌≡◌, suc, true, Contains, List, [], ◌∷◌, map, sym, refl, ap, ◌∙◌, subst, ⊎_elim, arith}
use Rattle.std.proofs.lemmas.List.Elements.{All-contains, Contains-append_right}
use Rattle.std.proofs.lemmas.Bool.Decides.{nat_tests}
use Rattle.planning.specs.Placing.{Jobs}
use Rattle.planning.specs.Rows.{Place, is_earlier, Rising, IsGift, row_of, RowsOf, RowsAreOne}
use Rattle.planning.specs.Windows.{placed}
use Rattle.planning.proofs.Greedy.{greedy_exists}
use Rattle.planning.proofs.Membership.{has_cons_cases, has_head}

module _ (js : Jobs) where
  -- of two places no more than one is the earlier
  pub earlier_one_way : (p q : Place) → is_earlier js p q ≡ true → is_earlier js q p ≡ true → ⊥
  earlier_one_way p q before after = grind (arith, nat_tests)

  pub not_earlier_itself : (p q : Place) → p ≡ q → is_earlier js p q ≡ true → ⊥
  not_earlier_itself p q same before = earlier_one_way p p (subst (λ x. is_earlier js p x ≡ true) (sym same) before) (subst (λ x. is_earlier js p x ≡ true) (sym same) before)

  pub rising_tail : (p : Place) (ps : List Place) → Rising js (p ∷ ps) → Rising js ps
  rising_tail p ps rising a b d low inside = rising (suc a) (suc b) d (omega arith) (omega arith)

  -- the first place is earlier than any other
  pub rising_head : (p : Place) (ps : List Place) (q : Place) → Rising js (p ∷ ps) → Contains ps q → is_earlier js p q ≡ true
  rising_head p ps q rising (k, inside, at_k) =
      subst (λ x. is_earlier js p x ≡ true) at_k (rising 0 (suc k) q (omega arith) (omega arith))

  -- the first of the places comes first in any rising list of them
  same_first : (p : Place) (ps : List Place) (q : Place) (qs : List Place) → Rising js (p ∷ ps) → Rising js (q ∷ qs) → Contains (q ∷ qs) p → Contains (p ∷ ps) q → p ≡ q
  same_first p ps q qs rising other there here =
      ⊎_elim {C = p ≡ q} sym
      (λ later.
      ⊎_elim {C = p ≡ q} (λ same. same)
      (λ also. absurd (earlier_one_way p q (rising_head p ps q rising also) (rising_head q qs p other later)))
      (has_cons_cases p ps q here))
      (has_cons_cases q qs p there)

  -- what stands after the first place stands after it in the other list too
  rest_has : (p : Place) (ps : List Place) (q : Place) (qs : List Place) → p ≡ q → Rising js (p ∷ ps) → ((x : Place) → Contains (p ∷ ps) x → Contains (q ∷ qs) x) → (x : Place) → Contains ps x → Contains qs x
  rest_has p ps q qs first rising moves x has =
      ⊎_elim {C = Contains qs x}
      (λ same. absurd (not_earlier_itself p x (first ∙ same) (rising_head p ps x rising has)))
      (λ later. later)
      (has_cons_cases q qs x (moves x (Contains-append_right (p ∷ []) ps x has)))

  -- two rising lists with the same places are one
  pub same_places : (ps qs : List Place) → Rising js ps → Rising js qs → ((x : Place) → Contains ps x → Contains qs x) → ((x : Place) → Contains qs x → Contains ps x) → ps ≡ qs
  same_places [] [] rising other there here = refl
  same_places [] (q ∷ qs) rising other there here = absurd (let has = here q (has_head q qs) in omega (arith, has.1))
  same_places (p ∷ ps) [] rising other there here = absurd (let has = there p (has_head p ps) in omega (arith, has.1))
  same_places (p ∷ ps) (q ∷ qs) rising other there here =
      let first : p ≡ q = same_first p ps q qs rising other (there p (has_head p ps)) (here q (has_head q qs)) in
      let rest : ps ≡ qs =
      same_places ps qs (rising_tail p ps rising) (rising_tail q qs other)
      (rest_has p ps q qs first rising there)
      (rest_has q qs p ps (sym first) other here)
      in
      ap (λ x. x ∷ ps) first ∙ ap (λ l. q ∷ l) rest

pub rows_are_one : RowsAreOne
rows_are_one jobs fr rows others greedy also =
    let js : Jobs = placed jobs in
    let table = greedy_exists js fr in
    let G = table.0 in
    let a : RowsOf jobs fr G rows = greedy G table.1 in
    let b : RowsOf jobs fr G others = also G table.1 in
    let same : a.places ≡ b.places =
    same_places js a.places b.places a.rising b.rising
    (λ x has. b.all x (All-contains (IsGift js fr G) a.places x a.gifts has))
    (λ x has. a.all x (All-contains (IsGift js fr G) b.places x b.gifts has))
    in
    a.written ∙ ap (map (row_of jobs G)) same ∙ sym b.written
