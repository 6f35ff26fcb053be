use Rattle.std.proofs.Common.{◌≡◌, ℕ, Bool, false, cond, eqb, List, [], ◌∷◌, get_or, Some, None, Option, refl, ap, ◌∙◌}
use Rattle.std.specs.Borrow.{Bor}
use Rattle.std.specs.List.{onto_first, slice_get, slice_split}
use Rattle.std.specs.Option.{option_map, unwrap_or}
use Rattle.std.proofs.lemmas.Option.{unwrap_or-slice_get}
use denote.Param.Members.{Mut}
use Rattle.std.specs.Fn.{CalledAt}
use Rattle.std.specs.Slice.Iter.{split_callee, split_done, split_rest, split_steps}
use Rattle.std.proofs.lemmas.Iterator.{YieldsList}
use Rattle.std.proofs.lemmas.Iterator.Splits.{YieldsList-from_slice_split}
use Rattle.sheets.specs.Text.{onto, parts}

onto_is_first : (b : ℕ) (ps : List (List ℕ)) → onto b ps ≡ onto_first b ps
onto_is_first b [] = refl
onto_is_first b (p ∷ ps) = refl

-- The parts of a text are those that `split` gives.
pub parts_split : (c : ℕ) (text : List ℕ) → parts c text ≡ slice_split (λ b. eqb b c) text
parts_split c [] = refl
parts_split c (b ∷ bs) =
    ap (λ rest. cond (eqb b c) ([] ∷ rest) (onto b rest)) (parts_split c bs)
    ∙ ap (λ front. cond (eqb b c) ([] ∷ slice_split (λ b. eqb b c) bs) front) (onto_is_first b (slice_split (λ b. eqb b c) bs))

-- Cutting a text by `split` gives its parts.
pub parts_yielded : {F : Type 0} {s : _} (g : Mut F (Bor ℕ × Unit {0}) Bool) (c : ℕ) {f : F} (text : List ℕ) → split_rest s ≡ text → split_done s ≡ false → split_callee s ≡ f
    → ((x : ℕ) (b : Bool) (q : F) → CalledAt g f x b q → (q ≡ f) × (b ≡ eqb x c)) → YieldsList (split_steps g) (λ x. x.now) s (parts c text)
parts_yielded g c text rest done callee tests =
    rw parts_split (YieldsList-from_slice_split g (λ b. eqb b c) text rest done callee tests)

-- What is found at a place of a list, or else nothing, is the text at that place.
pub found_or_none : (texts : List (List ℕ)) (at : ℕ) (found : Option (Bor (List ℕ))) (other : Bor (List ℕ)) → other.now ≡ []
    → option_map (λ x. x.now) found ≡ slice_get texts at → (unwrap_or found other).now ≡ get_or texts at []
found_or_none texts at None other none h = none ∙ ap (λ o. unwrap_or o []) h ∙ unwrap_or-slice_get texts at []
found_or_none texts at (Some x) other none h = ap (λ o. unwrap_or o []) h ∙ unwrap_or-slice_get texts at []
