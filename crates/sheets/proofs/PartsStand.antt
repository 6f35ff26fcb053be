use Rattle.std.proofs.Common.{◌≡◌, ℕ, zero, suc, ◌<◌, List, [], ◌∷◌, ◌++◌, length, get_or, sym, refl, ap, ◌∙◌, inl, inr, arith}
use Rattle.std.proofs.lemmas.Bool.{cases_eq, eq-eqb, ne_eqb}
use Rattle.sheets.specs.Text.{Cuts, Lacks, PartsStand, joined_by, onto, parts}
use Rattle.sheets.proofs.PartsCounted.{some_onto}

-- A text that lacks the separator is its only part.
parts_last : (c : ℕ) (text : List ℕ) → Lacks c text → parts c text ≡ text ∷ []
parts_last c [] lacks = refl
parts_last c (b ∷ bs) lacks = rw (ne_eqb b c (lacks 0 (omega arith)), parts_last c bs (λ k h. lacks (suc k) (omega arith)))

-- None of the parts has the separator in it.
abbrev Clean : ℕ → List (List ℕ) → Type 0
Clean c ps = (k : ℕ) → k < length ps → Lacks c (get_or ps k [])

lacks_none : (c : ℕ) → Lacks c []
lacks_none c k below here = absurd (omega arith)

lacks_more : (c b : ℕ) (p : List ℕ) → (b ≡ c → ⊥) → Lacks c p → Lacks c (b ∷ p)
lacks_more c b p other lacks zero below = other
lacks_more c b p other lacks (suc k) below = lacks k (omega arith)

clean_next : (c : ℕ) (ps : List (List ℕ)) → Clean c ps → Clean c ([] ∷ ps)
clean_next c ps clean zero below = lacks_none c
clean_next c ps clean (suc k) below = clean k (omega arith)

clean_onto : (c b : ℕ) (ps : List (List ℕ)) → (b ≡ c → ⊥) → Clean c ps → Clean c (onto b ps)
clean_onto c b [] other clean zero below = lacks_more c b [] other (lacks_none c)
clean_onto c b [] other clean (suc k) below = absurd (omega arith)
clean_onto c b (p ∷ ps) other clean zero below = lacks_more c b p other (clean 0 (omega arith))
clean_onto c b (p ∷ ps) other clean (suc k) below = clean (suc k) below

joined_next : (c : ℕ) (ps : List (List ℕ)) → 0 < length ps → joined_by c ([] ∷ ps) ≡ c ∷ joined_by c ps
joined_next c [] some = absurd (omega arith)
joined_next c (p ∷ ps) some = refl

joined_onto : (c b : ℕ) (ps : List (List ℕ)) → joined_by c (onto b ps) ≡ b ∷ joined_by c ps
joined_onto c b [] = refl
joined_onto c b (p ∷ []) = refl
joined_onto c b (p ∷ q ∷ ps) = refl

-- One more byte in front is a separator before all parts, or goes onto the first part.
cuts_next : (c b : ℕ) (bs : List ℕ) (ps : List (List ℕ)) → b ≡ c → Cuts c bs ps → Cuts c (b ∷ bs) ([] ∷ ps)
cuts_next c b bs ps same cuts = record {
  some = omega arith;
  clean = clean_next c ps cuts.clean;
  whole = joined_next c ps cuts.some ∙ rw (cuts.whole, same);
}

cuts_onto : (c b : ℕ) (bs : List ℕ) (ps : List (List ℕ)) → (b ≡ c → ⊥) → Cuts c bs ps → Cuts c (b ∷ bs) (onto b ps)
cuts_onto c b bs ps other cuts = record {
  some = some_onto b ps;
  clean = clean_onto c b ps other cuts.clean;
  whole = joined_onto c b ps ∙ rw cuts.whole;
}

parts_cuts : (c : ℕ) (text : List ℕ) → Cuts c text (parts c text)
parts_cuts c [] = record { some = omega arith; clean = clean_next c [] (λ k below. absurd (omega arith)); whole = refl }
parts_cuts c (b ∷ bs) =
    elim (cases_eq b c) [
      | inl same ↦ rw (eq-eqb b c same) (cuts_next c b bs (parts c bs) same (parts_cuts c bs))
      | inr other ↦ rw (ne_eqb b c other) (cuts_onto c b bs (parts c bs) other (parts_cuts c bs))
    ]

parts_front : (c : ℕ) (p text : List ℕ) → Lacks c p → parts c (p ++ c ∷ text) ≡ p ∷ parts c text
parts_front c [] text lacks = rw (eq-eqb c c refl)
parts_front c (b ∷ p) text lacks = rw (ne_eqb b c (lacks 0 (omega arith)), parts_front c p text (λ k h. lacks (suc k) (omega arith)))

-- Parts that are joined are cut into the same parts again.
parts_joined : (c : ℕ) (ps : List (List ℕ)) → 0 < length ps → Clean c ps → parts c (joined_by c ps) ≡ ps
parts_joined c [] some clean = absurd (omega arith)
parts_joined c (p ∷ []) some clean = parts_last c p (clean 0 (omega arith))
parts_joined c (p ∷ q ∷ ps) some clean =
    parts_front c p (joined_by c (q ∷ ps)) (clean 0 (omega arith)) ∙ ap (λ rest. p ∷ rest) (parts_joined c (q ∷ ps) (omega arith) (λ k h. clean (suc k) (omega arith)))

pub parts_stand : PartsStand
parts_stand = record {
  cut = parts_cuts;
  only = λ c text other cuts. sym (parts_joined c other cuts.some cuts.clean) ∙ ap (parts c) cuts.whole;
}
