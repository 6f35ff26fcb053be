use Rattle.std.proofs.Common.{◌≡◌, ℕ, suc, ◌-◌, ◌<◌, ◌≤◌, Bool, true, false, not, cond, eqb, List, [], ◌∷◌, length, get_or, Some, None, Option, sym, refl, ap, ◌∙◌, inl, inr, arith}
use Rattle.std.specs.Borrow.{Bor}
use Rattle.std.specs.List.{slice_get}
use Rattle.std.specs.Option.{MatchOption, option_copied}
use Rattle.std.proofs.lemmas.Bool.{cases_eq, eq-eqb, ne_eqb}
use Rattle.std.proofs.lemmas.Option.{get_or_from_slice_get, slice_get-get_or}
use Rattle.sheets.specs.Text.{onto, parts}
use Rattle.sheets.proofs.PartsCounted.{length_onto, parts_some}

-- The last of a list, or else the given one.
abbrev last : {A : Type 0} → List A → A → A
last [] d = d
last (x ∷ []) d = x
last (x ∷ y ∷ xs) d = last (y ∷ xs) d

at_last : {A : Type 0} (xs : List A) (d : A) → get_or xs (length xs - 1) d ≡ last xs d
at_last [] d = refl
at_last (x ∷ []) d = refl
at_last (x ∷ y ∷ xs) d =
    let here : suc (suc (length xs)) - 1 ≡ suc (length xs) = omega arith in
    let next : length xs ≡ suc (length xs) - 1 = omega arith in
    ap (λ k. get_or (x ∷ y ∷ xs) k d) here ∙ ap (λ k. get_or (y ∷ xs) k d) next ∙ at_last (y ∷ xs) d

last_next : (p : List ℕ) (ps : List (List ℕ)) → 0 < length ps → last (p ∷ ps) [] ≡ last ps []
last_next p [] some = absurd (omega arith)
last_next p (q ∷ qs) some = refl

last_onto : (b : ℕ) (ps : List (List ℕ)) → 2 ≤ length ps → last (onto b ps) [] ≡ last ps []
last_onto b [] two = absurd (omega arith)
last_onto b (p ∷ []) two = absurd (omega arith)
last_onto b (p ∷ q ∷ qs) two = refl

some_last_onto : (b : ℕ) (ps : List (List ℕ)) → 0 < length (last ps []) → 0 < length (last (onto b ps) [])
some_last_onto b [] some = omega arith
some_last_onto b (p ∷ []) some = omega arith
some_last_onto b (p ∷ q ∷ qs) some = some

-- A text that ends in the separator has parts before the last, which is empty.
last_empty : (c : ℕ) (text : List ℕ) → 0 < length text → last text 0 ≡ c → (last (parts c text) [] ≡ []) × (2 ≤ length (parts c text))
last_empty c [] some here = absurd (omega arith)
last_empty c (b ∷ []) some here = rw (eq-eqb b c here) (refl, omega arith)
last_empty c (b ∷ d ∷ bs) some here =
    let h = last_empty c (d ∷ bs) (omega arith) here in
    let ps = parts c (d ∷ bs) in
    let front = parts_some c (d ∷ bs) in
    elim (eqb b c) as (λ t. (last (cond t ([] ∷ ps) (onto b ps)) [] ≡ []) × (2 ≤ length (cond t ([] ∷ ps) (onto b ps)))) [
      | true ↦ (last_next [] ps front ∙ h.0, omega (arith, front))
      | false ↦ (last_onto b ps h.1 ∙ h.0, omega (arith, h.1, length_onto b ps front))
    ]

-- The last part of a text that ends in another byte isn't.
last_some : (c : ℕ) (text : List ℕ) → 0 < length text → (last text 0 ≡ c → ⊥) → 0 < length (last (parts c text) [])
last_some c [] some other = absurd (omega arith)
last_some c (b ∷ []) some other = rw (ne_eqb b c other) (omega arith)
last_some c (b ∷ d ∷ bs) some other =
    let h = last_some c (d ∷ bs) (omega arith) other in
    let ps = parts c (d ∷ bs) in
    let front = parts_some c (d ∷ bs) in
    elim (eqb b c) as (λ t. 0 < length (last (cond t ([] ∷ ps) (onto b ps)) [])) [
      | true ↦ rw (last_next [] ps front) h
      | false ↦ some_last_onto b ps h
    ]

-- Whether the last byte is another than the separator tells whether the last part has any bytes.
last_told : (c : ℕ) (text : List ℕ) (byte : Option (Bor ℕ)) (other : Bool) (Told : Bor ℕ → Type 0) → option_copied byte ≡ slice_get text (length text - 1)
    → MatchOption byte (other ≡ false) Told → ((b : Bor ℕ) → Told b → other ≡ not (eqb b.now c)) → eqb (length (last (parts c text) [])) 0 ≡ not other
last_told c [] None other Told read told test = rw told refl
last_told c [] (Some b) other Told read told test = absurd (cc)
last_told c (d ∷ bs) None other Told read told test =
    let text = d ∷ bs in
    let held = slice_get-get_or text (length text - 1) 0 (omega arith) in
    absurd (cc)
last_told c (d ∷ bs) (Some b) other Told read told test =
    let text = d ∷ bs in
    let here : last text 0 ≡ b.now = sym (at_last text 0) ∙ get_or_from_slice_get text (length text - 1) b.now 0 (sym read) in
    elim (cases_eq b.now c) [
      | inl same ↦ rw (test b told, eq-eqb b.now c same, (last_empty c text (omega arith) (here ∙ same)).0) refl
      | inr unlike ↦ rw (test b told, ne_eqb b.now c unlike, ne_eqb (length (last (parts c text) [])) 0 (λ none. omega (arith, none, last_some c text (omega arith) (λ same. unlike (sym here ∙ same))))) refl
    ]

-- The same of the last part by its place.
pub last_part_told : (c : ℕ) (text : List ℕ) (byte : Option (Bor ℕ)) (other : Bool) (Told : Bor ℕ → Type 0) → option_copied byte ≡ slice_get text (length text - 1)
    → MatchOption byte (other ≡ false) Told → ((b : Bor ℕ) → Told b → other ≡ not (eqb b.now c)) → eqb (length (get_or (parts c text) (length (parts c text) - 1) [])) 0 ≡ not other
last_part_told c text byte other Told read told test =
    rw (at_last (parts c text) []) (last_told c text byte other Told read told test)
