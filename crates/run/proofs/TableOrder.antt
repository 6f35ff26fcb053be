use Rattle.std.proofs.Common.{◌≡◌, ℕ, zero, suc, ◌<◌, ◌≤◌, true, eqb, List, [], ◌∷◌, ◌++◌, map, get_or, sym, refl, ap, ◌∙◌, subst, ⊎_elim, arith}
use Rattle.std.proofs.lemmas.List.Elements.{All-cons, All-map, All-tail}
use Rattle.std.proofs.lemmas.Bool.{cases_lt, cond-false, cond-true, eq-eqb, ne_eqb}
use Rattle.std.proofs.lemmas.Bool.Decides.{nat_tests}
use Rattle.std.specs.List.{All}
use Rattle.planning.specs.declared.job.Job.{Job}
use Rattle.planning.specs.declared.job.Row.{Row}
use Rattle.planning.specs.Placing.{Frames, Gifts}
use Rattle.planning.specs.Rows.{Place, is_earlier, Rising, IsGift, row_of, RowsOf, GreedyRows}
use Rattle.planning.specs.Windows.{placed}
use Rattle.planning.proofs.Greedy.{greedy_exists}
use Rattle.run.specs.Events.{joined, rows_in}

-- the frames of the rows never fall
abbrev NeverFalls : List Row → Type 0
NeverFalls [] = Unit {0}
NeverFalls (x ∷ xs) = All (λ y. x.frame ≤ y.frame) xs × NeverFalls xs

joined_none : {X : Type 0} (n : ℕ) (f : ℕ → List X) → ((g : ℕ) → g < n → f g ≡ []) → joined n f ≡ []
joined_none zero f none = refl
joined_none (suc n) f none = ap (λ l. l ++ f n) (joined_none n f (λ g h. none g (omega arith))) ∙ none n (omega arith)

row_here : (x : Row) (xs : List Row) (g : ℕ) → x.frame ≡ g → rows_in (x ∷ xs) g ≡ x ∷ rows_in xs g
row_here x xs g same = cond-true (eqb x.frame g) (x ∷ rows_in xs g) (rows_in xs g) (eq-eqb x.frame g same)

row_elsewhere : (x : Row) (xs : List Row) (g : ℕ) → (x.frame ≡ g → ⊥) → rows_in (x ∷ xs) g ≡ rows_in xs g
row_elsewhere x xs g apart = cond-false (eqb x.frame g) (x ∷ rows_in xs g) (rows_in xs g) (ne_eqb x.frame g apart)

-- a frame before those of all the rows has none
no_rows : (xs : List Row) (g : ℕ) → All (λ y. g < y.frame) xs → rows_in xs g ≡ []
no_rows [] g later = refl
no_rows (x ∷ xs) g later =
    row_elsewhere x xs g (λ same. omega (arith, later 0 x (omega arith))) ∙ no_rows xs g (All-tail (λ y. g < y.frame) x xs later)

nothing_before : (xs : List Row) (n k : ℕ) → n ≤ k → All (λ y. k ≤ y.frame) xs → joined n (rows_in xs) ≡ []
nothing_before xs n k below later =
    joined_none n (rows_in xs) (λ g h. no_rows xs g (λ i d inside. omega (arith, later i d inside)))

-- the first row comes first
first_row : (n : ℕ) (x : Row) (xs : List Row) → x.frame < n → All (λ y. x.frame ≤ y.frame) xs → joined n (rows_in (x ∷ xs)) ≡ x ∷ joined n (rows_in xs)
first_row zero x xs below later = absurd (omega arith)
first_row (suc n) x xs below later =
    ⊎_elim {C = joined n (rows_in (x ∷ xs)) ++ rows_in (x ∷ xs) n ≡ x ∷ (joined n (rows_in xs) ++ rows_in xs n)}
    (λ (before : x.frame < n).
    let a : joined n (rows_in (x ∷ xs)) ≡ x ∷ joined n (rows_in xs) = first_row n x xs before later in
    let b : rows_in (x ∷ xs) n ≡ rows_in xs n = row_elsewhere x xs n (λ same. omega arith) in
    ap (λ l. l ++ rows_in (x ∷ xs) n) a ∙ ap (λ l. (x ∷ joined n (rows_in xs)) ++ l) b)
    (λ (at_n : n ≤ x.frame).
    let same : x.frame ≡ n = omega arith in
    let a : joined n (rows_in (x ∷ xs)) ≡ [] = nothing_before (x ∷ xs) n x.frame at_n (All-cons (λ y. x.frame ≤ y.frame) x xs (omega arith) later) in
    let b : joined n (rows_in xs) ≡ [] = nothing_before xs n x.frame at_n later in
    let c : rows_in (x ∷ xs) n ≡ x ∷ rows_in xs n = row_here x xs n same in
    ap (λ l. l ++ rows_in (x ∷ xs) n) a ∙ (c ∙ ap (λ l. x ∷ (l ++ rows_in xs n)) (sym b)))
    (cases_lt x.frame n)

-- rows whose frames never fall come frame by frame
pub in_order : (n : ℕ) (rows : List Row) → NeverFalls rows → All (λ x. x.frame < n) rows → rows ≡ joined n (rows_in rows)
in_order n [] falls below = sym (joined_none n (rows_in []) (λ g h. refl))
in_order n (x ∷ xs) falls below =
    ap (λ l. x ∷ l) (in_order n xs falls.1 (All-tail (λ y. y.frame < n) x xs below)) ∙ sym (first_row n x xs (below 0 x (omega arith)) falls.0)

module _ (jobs : List Job) (G : Gifts) where
  places_never_fall : (places : List Place) → Rising (placed jobs) places → NeverFalls (map (row_of jobs G) places)
  places_never_fall [] rising = tt
  places_never_fall (p ∷ ps) rising = (
    All-map (λ y. p.frame ≤ y.frame) (row_of jobs G) ps
        (λ i d inside. no_later p (get_or ps i d) (rising 0 (suc i) d (omega arith) (omega arith))),
    places_never_fall ps (λ a b d low inside. rising (suc a) (suc b) d (omega arith) (omega arith)),
  )
    where
      no_later : (p q : Place) → is_earlier (placed jobs) p q ≡ true → p.frame ≤ q.frame
      no_later p q before = grind (arith, nat_tests)

pub rows_by_frame : (jobs : List Job) (fr : Frames) (rows : List Row) → GreedyRows jobs fr rows → rows ≡ joined fr.count (rows_in rows)
rows_by_frame jobs fr rows greedy =
    let table = greedy_exists (placed jobs) fr in
    let G : Gifts = table.0 in
    let r : RowsOf jobs fr G rows = greedy G table.1 in
    let below : All (λ x. x.frame < fr.count) (map (row_of jobs G) r.places) =
    All-map (λ x. x.frame < fr.count) (row_of jobs G) r.places
    (λ i d inside. (r.gifts i d inside).0)
    in
    subst (λ l. l ≡ joined fr.count (rows_in l)) (sym r.written)
    (in_order fr.count (map (row_of jobs G) r.places) (places_never_fall jobs G r.places r.rising) below)
