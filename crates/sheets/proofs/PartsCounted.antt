use Rattle.std.proofs.Common.{◌≡◌, ℕ, suc, ◌<◌, true, false, cond, eqb, List, [], ◌∷◌, length, refl, arith}
use Rattle.sheets.specs.Text.{onto, parts}

pub some_onto : (b : ℕ) (ps : List (List ℕ)) → 0 < length (onto b ps)
some_onto b [] = omega arith
some_onto b (p ∷ ps) = omega arith

-- There is at least one part.
pub parts_some : (c : ℕ) (text : List ℕ) → 0 < length (parts c text)
parts_some c [] = omega arith
parts_some c (b ∷ bs) = elim (eqb b c) as (λ t. 0 < length (cond t ([] ∷ parts c bs) (onto b (parts c bs)))) [ true ↦ omega arith | false ↦ some_onto b (parts c bs) ]

pub length_onto : (b : ℕ) (ps : List (List ℕ)) → 0 < length ps → length (onto b ps) ≡ length ps
length_onto b [] some = absurd (omega arith)
length_onto b (p ∷ ps) some = refl

-- A separator adds a part, and another byte adds none.
pub length_parts : (c b : ℕ) (bs : List ℕ) → length (parts c (b ∷ bs)) ≡ cond (eqb b c) (suc (length (parts c bs))) (length (parts c bs))
length_parts c b bs = elim (eqb b c) as (λ t. length (cond t ([] ∷ parts c bs) (onto b (parts c bs))) ≡ cond t (suc (length (parts c bs))) (length (parts c bs))) [ true ↦ refl | false ↦ length_onto b (parts c bs) (parts_some c bs) ]
