use Rattle.std.proofs.Common.{◌≡◌, ℕ, zero, suc, ◌+◌, ◌*◌, ◌<◌, ◌≤◌, eqb, ltb, List, [], ◌∷◌, ◌++◌, map, length, get_or, Some, None, Option, sym, refl, ap, ◌∙◌, subst, ⊎_elim, suc-mul, add-one, arith}
use Rattle.std.proofs.lemmas.Nat.{mul-le}
use Rattle.std.proofs.lemmas.List.Elements.{All-append, All-nil, filter_passes}
use Rattle.std.proofs.lemmas.List.{append_assoc, append-nil, get_or-append-add, get_or_at, length-append, length_push, map-append, map_push}
use Rattle.std.proofs.lemmas.List.Sums.{sum_by-append}
use Rattle.std.proofs.lemmas.Bool.{cases_lt, cond-false, cond-true, eq-eqb, eqb-true, le-ltb, lt-ltb, ne_eqb}
use Rattle.std.specs.List.{All}
use Rattle.planning.specs.declared.job.Row.{Row}
use Rattle.planning.specs.Plans.{row_in}
use Rattle.run.specs.declared.event.Event.{Event}
use Rattle.run.specs.declared.event.Event.TheVariants.{FrameEnd}
use Rattle.run.specs.declared.planner.place.Place.{Place}
use Rattle.run.specs.Agrees.{AtPlace, of_frame, upcoming_in}
use Rattle.run.specs.Events.{Begins, end_of, frame_ends, frame_events, joined, repetition_events, rows_in, run_events, slice_of}
use Rattle.run.proofs.AfterFrameEnds.{frame_ends_once, joined_ends, run_ends, slices_end_none}

joined_next : {X : Type 0} (n : ℕ) (f : ℕ → List X) → joined (n + 1) f ≡ joined n f ++ f n
joined_next n f = ap (λ k. joined k f) (add-one n)

-- what is joined, at one of its parts
pub joined_at : {X : Type 0} (P : X → Type 0) (f : ℕ → List X) (g : ℕ) → ((h : ℕ) → g < h → All P (f h)) → (n : ℕ) → g < n → (later : List X) × (joined n f ≡ joined g f ++ (f g ++ later)) × All P later
joined_at P f g holds zero below = absurd (omega arith)
joined_at {X} P f g holds (suc n) below =
    ⊎_elim {C = (later : List X) × (joined n f ++ f n ≡ joined g f ++ (f g ++ later)) × All P later}
    (λ (before : g < n).
    let (later, same, all) = joined_at P f g holds n before in (
      later ++ f n,
      ap (λ l. l ++ f n) same ∙ simp append_assoc,
      All-append P later (f n) all (holds n before),
    ))
    (λ (at_n : n ≤ g).
    let same : n ≡ g = omega arith in (
      [],
      ap (λ k. joined k f ++ f k) same ∙ ap (λ l. joined g f ++ l) (sym (append-nil (f g))),
      All-nil P,
    ))
    (cases_lt g n)

-- the row at a place
row_at : (front : List Row) (x : Row) (rest : List Row) (i : ℕ) → length front ≡ i → row_in (front ++ x ∷ rest) i ≡ Some x
row_at front x rest i long =
    let inside : i < length (front ++ x ∷ rest) = omega (arith, length-append front (x ∷ rest)) in
    cond-true (ltb i (length (front ++ x ∷ rest))) (Some (get_or (front ++ x ∷ rest) i (record { frame = 0; task = 0; job = 0; length = 0 }))) None (lt-ltb i (length (front ++ x ∷ rest)) inside)
    ∙ ap (λ y. Some y) (get_or_at front x rest (record { frame = 0; task = 0; job = 0; length = 0 }) i long)

row_past : (front : List Row) (i : ℕ) → length front ≡ i → row_in (front ++ []) i ≡ None
row_past front i long =
    let past : length (front ++ []) ≤ i = omega (arith, length-append {A = Row} front []) in
    cond-false (ltb i (length (front ++ []))) (Some (get_or (front ++ []) i (record { frame = 0; task = 0; job = 0; length = 0 }))) None (le-ltb i (length (front ++ [])) past)

of_frame_lem : (g : ℕ) (x : Row) → x.frame ≡ g → of_frame g (Some x) ≡ Some x
of_frame_lem g x same = cond-true (eqb x.frame g) (Some x) None (eq-eqb x.frame g same)

not_of_frame : (g : ℕ) (x : Row) → g < x.frame → of_frame g (Some x) ≡ None
not_of_frame g x later = cond-false (eqb x.frame g) (Some x) None (ne_eqb x.frame g (λ same. omega arith))

abbrev first : List Row → Option Row
first [] = None
first (x ∷ xs) = Some x

-- what is upcoming is the first of what is left of the frame
upcoming_first : (front left later : List Row) (g i : ℕ) → length front ≡ i → All (λ x. x.frame ≡ g) left → All (λ x. g < x.frame) later → upcoming_in (front ++ (left ++ later)) g i ≡ first left
upcoming_first front [] [] g i long here after = ap (of_frame g) (row_past front i long)
upcoming_first front [] (y ∷ later) g i long here after = ap (of_frame g) (row_at front y later i long) ∙ not_of_frame g y (after 0 y (omega arith))
upcoming_first front (x ∷ left) later g i long here after = ap (of_frame g) (row_at front x (left ++ later) i long) ∙ of_frame_lem g x (here 0 x (omega arith))

rows_here : (rows : List Row) (g : ℕ) → All (λ x. x.frame ≡ g) (rows_in rows g)
rows_here rows g k d inside =
    eqb-true (get_or (rows_in rows g) k d).frame g (filter_passes (λ row. eqb row.frame g) rows k d inside)

all_right : {X : Type 0} (P : X → Type 0) (xs ys : List X) → All P (xs ++ ys) → All P ys
all_right P xs ys all k d inside =
    subst P (get_or-append-add xs ys k d) (all (length xs + k) d (omega (arith, length-append xs ys)))

module _ (rows : List Row) (F : ℕ) where
  pub place_begins : 1 ≤ F → AtPlace rows F (record { repetition = 0; frame = 0; row = 0 }) []
  place_begins some =
      record {
        done = [];
        left = rows_in rows 0;
        counted = omega arith;
        ended = λ never. absurd (omega arith);
        inside = omega arith;
        split = refl;
        placed = refl;
        so_far = refl;
      }

  pub place_upcoming : rows ≡ joined F (rows_in rows) → (at : Place) (events : List Event) (p : AtPlace rows F at events) → upcoming_in rows at.frame at.row ≡ first p.left
  place_upcoming in_order at events p =
      let (later, same, after) = joined_at (λ (x : Row). at.frame < x.frame) (rows_in rows) at.frame (λ h above k d inside. omega (arith, rows_here rows h k d inside)) F p.inside in
      let front : List Row = joined at.frame (rows_in rows) ++ p.done in
      let whole : rows ≡ front ++ (p.left ++ later) =
      in_order ∙ (same ∙ (ap (λ l. joined at.frame (rows_in rows) ++ (l ++ later)) p.split ∙ simp append_assoc))
      in
      let long : length front ≡ at.row = omega (arith, length-append (joined at.frame (rows_in rows)) p.done, p.placed) in
      let here : All (λ x. x.frame ≡ at.frame) p.left =
      all_right (λ x. x.frame ≡ at.frame) p.done p.left (subst (All (λ x. x.frame ≡ at.frame)) p.split (rows_here rows at.frame))
      in
      ap (λ l. upcoming_in l at.frame at.row) whole ∙ upcoming_first front p.left later at.frame at.row long here after

  pub place_slice : rows ≡ joined F (rows_in rows) → (at : Place) (events : List Event) → AtPlace rows F at events → at.repetition < 1000000 → (x : Row) → upcoming_in rows at.frame at.row ≡ Some x → AtPlace rows F (record { repetition = at.repetition; frame = at.frame; row = at.row + 1 }) (events ++ slice_of at.repetition x ∷ [])
  place_slice in_order at events p going x next =
      let (rest, is) = left_is p.left (sym (place_upcoming in_order at events p) ∙ next) in
      record {
        done = p.done ++ x ∷ [];
        left = rest;
        counted = p.counted;
        ended = λ over. absurd (omega arith);
        inside = p.inside;
        split = p.split ∙ (ap (λ l. p.done ++ l) is ∙ sym (append_assoc p.done (x ∷ []) rest));
        placed = omega (arith, p.placed, length_push p.done x);
        so_far =
            ap (λ l. l ++ slice_of at.repetition x ∷ []) p.so_far
            ∙ (append_assoc (run_events rows F at.repetition) (joined at.frame (frame_events rows at.repetition) ++ map (slice_of at.repetition) p.done) (slice_of at.repetition x ∷ [])
            ∙ ap (λ l. run_events rows F at.repetition ++ l) (append_assoc (joined at.frame (frame_events rows at.repetition)) (map (slice_of at.repetition) p.done) (slice_of at.repetition x ∷ [])
            ∙ ap (λ l. joined at.frame (frame_events rows at.repetition) ++ l) (sym (map_push (slice_of at.repetition) p.done x))));
      }
    where
      left_is : (left : List Row) → first left ≡ Some x → (rest : List Row) × (left ≡ x ∷ rest)
      left_is [] never = let z : ◌≡◌ {A = ℕ} 0 1 = cc in absurd (omega arith)
      left_is (y ∷ ys) same = let z : y ≡ x = cc in (ys, ap (λ k. k ∷ ys) z)

  -- the events after a frame's end
  frame_over : (r g : ℕ) (events : List Event) (done : List Row) → rows_in rows g ≡ done → events ≡ run_events rows F r ++ (joined g (frame_events rows r) ++ map (slice_of r) done) → events ++ FrameEnd r g ∷ [] ≡ run_events rows F r ++ joined (g + 1) (frame_events rows r)
  frame_over r g events done all so_far =
      ap (λ l. l ++ FrameEnd r g ∷ []) so_far
      ∙ (append_assoc (run_events rows F r) (joined g (frame_events rows r) ++ map (slice_of r) done) (FrameEnd r g ∷ [])
      ∙ ap (λ l. run_events rows F r ++ l) (append_assoc (joined g (frame_events rows r)) (map (slice_of r) done) (FrameEnd r g ∷ [])
      ∙ (ap (λ l. joined g (frame_events rows r) ++ (map (slice_of r) l ++ FrameEnd r g ∷ [])) (sym all)
      ∙ sym (joined_next g (frame_events rows r)))))

  pub place_frame_end : rows ≡ joined F (rows_in rows) → (at : Place) (events : List Event) → AtPlace rows F at events → at.repetition < 1000000 → upcoming_in rows at.frame at.row ≡ None → (at.frame + 1 < F → AtPlace rows F (record { repetition = at.repetition; frame = at.frame + 1; row = at.row }) (events ++ FrameEnd at.repetition at.frame ∷ [])) × (at.frame + 1 ≡ F → AtPlace rows F (record { repetition = at.repetition + 1; frame = 0; row = 0 }) (events ++ FrameEnd at.repetition at.frame ∷ []))
  place_frame_end in_order at events p going none =
      let is : p.left ≡ [] = left_is p.left (sym (place_upcoming in_order at events p) ∙ none) in
      let all : rows_in rows at.frame ≡ p.done = p.split ∙ (ap (λ l. p.done ++ l) is ∙ append-nil p.done) in
      let over : events ++ FrameEnd at.repetition at.frame ∷ [] ≡ run_events rows F at.repetition ++ joined (at.frame + 1) (frame_events rows at.repetition) = frame_over at.repetition at.frame events p.done all p.so_far in (
        λ more.
            record {
              done = [];
              left = rows_in rows (at.frame + 1);
              counted = p.counted;
              ended = λ over. absurd (omega arith);
              inside = more;
              split = refl;
              placed =
                  let longer : length (joined (at.frame + 1) (rows_in rows)) ≡ length (joined at.frame (rows_in rows)) + length p.done =
                  ap length (joined_next at.frame (rows_in rows)) ∙ (length-append (joined at.frame (rows_in rows)) (rows_in rows at.frame) ∙ ap (λ l. length (joined at.frame (rows_in rows)) + length l) all)
                  in
                  omega (arith, p.placed);
              so_far = over ∙ ap (λ l. run_events rows F at.repetition ++ l) (sym (append-nil (joined (at.frame + 1) (frame_events rows at.repetition))));
            },
        λ last.
            record {
              done = [];
              left = rows_in rows 0;
              counted = omega arith;
              ended = λ _. (refl, refl);
              inside = omega arith;
              split = refl;
              placed = refl;
              so_far =
                  over
                  ∙ (ap (λ n. run_events rows F at.repetition ++ joined n (frame_events rows at.repetition)) last
                  ∙ (sym (joined_next at.repetition (repetition_events rows F)) ∙ sym (append-nil (run_events rows F (at.repetition + 1)))));
            },
      )
    where
      left_is : (left : List Row) → first left ≡ None → left ≡ []
      left_is [] same = refl
      left_is (y ∷ ys) never = let z : ◌≡◌ {A = ℕ} 0 1 = cc in absurd (omega arith)

  -- a beginning of the events of any number of repetitions, while the run is in one of them
  inside_begins : (n r g : ℕ) (events : List Event) (done left : List Row) → r < n → g < F → rows_in rows g ≡ done ++ left → events ≡ run_events rows F r ++ (joined g (frame_events rows r) ++ map (slice_of r) done) → Begins events (run_events rows F n)
  inside_begins n r g events done left going inside split so_far =
      let (after, whole, _) = joined_at (λ (e : Event). Unit {0}) (repetition_events rows F) r (λ h _ k d inside. tt) n going in
      let (later, one, _) = joined_at (λ (e : Event). Unit {0}) (frame_events rows r) g (λ h _ k d inside. tt) F inside in
      let rest : List Event = map (slice_of r) left ++ (FrameEnd r g ∷ (later ++ after)) in
      let a : run_events rows F n ≡ run_events rows F r ++ ((joined g (frame_events rows r) ++ ((map (slice_of r) (done ++ left) ++ FrameEnd r g ∷ []) ++ later)) ++ after) =
      whole
      ∙ ap (λ l. run_events rows F r ++ (l ++ after)) (one ∙ ap (λ l. joined g (frame_events rows r) ++ ((map (slice_of r) l ++ FrameEnd r g ∷ []) ++ later)) split)
      in
      let b : events ++ rest ≡ run_events rows F r ++ ((joined g (frame_events rows r) ++ ((map (slice_of r) (done ++ left) ++ FrameEnd r g ∷ []) ++ later)) ++ after) =
      ap (λ l. l ++ rest) so_far
      ∙ regroup (run_events rows F r) (joined g (frame_events rows r)) (map (slice_of r) done) (map (slice_of r) left) later after (map (slice_of r) (done ++ left)) (FrameEnd r g) (map-append (slice_of r) done left)
      in
      (rest, b ∙ sym a)
    where
      regroup : (a b c d e f cd : List Event) (x : Event) → cd ≡ c ++ d → (a ++ (b ++ c)) ++ (d ++ (x ∷ (e ++ f))) ≡ a ++ ((b ++ ((cd ++ x ∷ []) ++ e)) ++ f)
      regroup a b c d e f cd x same = simp append_assoc (ap (λ l. a ++ (b ++ l)) (sym (append_assoc c d (x ∷ (e ++ f))) ∙ ap (λ l. l ++ (x ∷ (e ++ f))) (sym same)))

  at_begins : (n r g : ℕ) (events : List Event) (done left : List Row) → r ≤ n → (r ≡ n → (g ≡ 0) × (done ≡ [])) → g < F → rows_in rows g ≡ done ++ left → events ≡ run_events rows F r ++ (joined g (frame_events rows r) ++ map (slice_of r) done) → Begins events (run_events rows F n)
  at_begins n r g events done left counted ended inside split so_far =
      ⊎_elim {C = Begins events (run_events rows F n)}
      (λ (going : r < n). inside_begins n r g events done left going inside split so_far)
      (λ (over : n ≤ r).
      let same : r ≡ n = omega arith in
      let (first_frame, none) = ended same in (
        [],
        append-nil events
            ∙ (so_far
            ∙ (ap (λ k. run_events rows F r ++ (joined k (frame_events rows r) ++ map (slice_of r) done)) first_frame
            ∙ (ap (λ l. run_events rows F r ++ map (slice_of r) l) none
            ∙ (append-nil (run_events rows F r) ∙ ap (run_events rows F) same)))),
      ))
      (cases_lt r n)

  pub place_beginning : (at : Place) (events : List Event) → AtPlace rows F at events → Begins events (run_events rows F 1000000)
  place_beginning at events p = at_begins 1000000 at.repetition at.frame events p.done p.left p.counted p.ended p.inside p.split p.so_far

  pub place_ends : (at : Place) (events : List Event) → AtPlace rows F at events → frame_ends events ≡ at.repetition * F + at.frame
  place_ends at events p =
      let whole : frame_ends events ≡ frame_ends (run_events rows F at.repetition ++ (joined at.frame (frame_events rows at.repetition) ++ map (slice_of at.repetition) p.done)) = ap frame_ends p.so_far in
      omega (
        arith,
        sum_by-append end_of (run_events rows F at.repetition) (joined at.frame (frame_events rows at.repetition) ++ map (slice_of at.repetition) p.done),
        sum_by-append end_of (joined at.frame (frame_events rows at.repetition)) (map (slice_of at.repetition) p.done),
        run_ends rows F at.repetition,
        joined_ends 1 at.frame (frame_events rows at.repetition) (frame_ends_once rows at.repetition),
        slices_end_none at.repetition p.done,
      )

  below_all : (n r g : ℕ) → r < n → g < F → r * F + g < n * F
  below_all n r g going inside = omega (arith, mul-le (suc r) F n F going (omega arith), suc-mul r F)

  pub place_not_ended : (at : Place) (events : List Event) → AtPlace rows F at events → at.repetition < 1000000 → frame_ends events < 1000000 * F
  place_not_ended at events p going = subst (λ k. k < 1000000 * F) (sym (place_ends at events p)) (below_all 1000000 at.repetition at.frame going p.inside)

  pub place_ended : (at : Place) (events : List Event) → AtPlace rows F at events → 1000000 ≤ at.repetition → frame_ends events ≡ 1000000 * F
  place_ended at events p over =
      let counted : at.repetition ≤ 1000000 = p.counted in
      let same : at.repetition ≡ 1000000 = omega arith in
      let whole : at.repetition * F ≡ 1000000 * F = ap (λ k. k * F) same in
      omega (arith, place_ends at events p, (p.ended same).0)
