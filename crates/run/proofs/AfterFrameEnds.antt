use Rattle.std.proofs.Common.{◌≡◌, ℕ, zero, suc, ◌+◌, ◌*◌, ◌<◌, Bool, true, eqb, List, [], ◌∷◌, ◌++◌, map, length, get_or, take, filter, refl, subst, arith}
use Rattle.std.proofs.lemmas.List.Elements.{All-filter, filter_passes}
use Rattle.std.proofs.lemmas.List.Sums.{sum_by-append, sum_by-cons, sum_by_push}
use Rattle.std.proofs.lemmas.Bool.{eqb-true}
use Rattle.std.specs.List.{All}
use Rattle.planning.specs.declared.job.Row.{Row}
use Rattle.run.specs.declared.event.Event.{Event}
use Rattle.run.specs.declared.event.Event.TheVariants.{FrameEnd}
use Rattle.run.specs.Events.{end_of, frame_ends, frame_events, joined, repetition_events, rows_in, run_events, slice_of}

-- Each event keeps a law of how many frames ended before it, where e ended before the first event.
abbrev pub AllFrom : (ℕ → Event → Type 0) → ℕ → List Event → Type 0
AllFrom law e [] = Unit {0}
AllFrom law e (x ∷ xs) = law e x × AllFrom law (e + end_of x) xs

-- what passes a test keeps what each element keeps if it passes
all_passing : {X : Type 0} (test : X → Bool) (P : X → Type 0) (xs : List X) → All (λ x. test x ≡ true → P x) xs → All P (filter test xs)
all_passing test P xs each k d inside = All-filter test (λ x. test x ≡ true → P x) xs each k d inside (filter_passes test xs k d inside)

-- how many frames end in lists of events one after the other, in slices, in a frame, a repetition and a run
pub joined_ends : (q n : ℕ) (f : ℕ → List Event) → ((i : ℕ) → frame_ends (f i) ≡ q) → frame_ends (joined n f) ≡ n * q
joined_ends q zero f ends = omega arith
joined_ends q (suc n) f ends = omega (arith, sum_by-append end_of (joined n f) (f n), joined_ends q n f ends, ends n)

pub slices_end_none : (r : ℕ) (rows : List Row) → frame_ends (map (slice_of r) rows) ≡ 0
slices_end_none r [] = refl
slices_end_none r (row ∷ rows) =
    omega (arith, sum_by-cons end_of (slice_of r row) (map (slice_of r) rows), slices_end_none r rows)

pub frame_ends_once : (rows : List Row) (r g : ℕ) → frame_ends (frame_events rows r g) ≡ 1
frame_ends_once rows r g =
    omega (arith, sum_by_push end_of (map (slice_of r) (rows_in rows g)) (FrameEnd r g), slices_end_none r (rows_in rows g))

pub repetition_ends : (rows : List Row) (frames r : ℕ) → frame_ends (repetition_events rows frames r) ≡ frames
repetition_ends rows frames r = omega (arith, joined_ends 1 frames (frame_events rows r) (frame_ends_once rows r))

pub run_ends : (rows : List Row) (frames n : ℕ) → frame_ends (run_events rows frames n) ≡ n * frames
run_ends rows frames n = joined_ends frames n (repetition_events rows frames) (repetition_ends rows frames)

module _ (law : ℕ → Event → Type 0) where
  from_same : (a b : ℕ) (xs : List Event) → a ≡ b → AllFrom law a xs → AllFrom law b xs
  from_same a b xs same each = subst (λ n. AllFrom law n xs) same each

  from_append : (e : ℕ) (xs ys : List Event) → AllFrom law e xs → AllFrom law (e + frame_ends xs) ys → AllFrom law e (xs ++ ys)
  from_append e [] ys first rest = from_same (e + frame_ends []) e ys (omega arith) rest
  from_append e (x ∷ xs) ys first rest =
      (first.0, from_append (e + end_of x) xs ys first.1 (from_same (e + frame_ends (x ∷ xs)) (e + end_of x + frame_ends xs) ys (omega (arith, sum_by-cons end_of x xs)) rest))

  -- a beginning keeps the law
  pub from_first : (e : ℕ) (xs ys : List Event) → AllFrom law e (xs ++ ys) → AllFrom law e xs
  from_first e [] ys each = tt
  from_first e (x ∷ xs) ys each = (each.0, from_first (e + end_of x) xs ys each.1)

  -- and so does the rest, after the frames that ended in the beginning
  pub from_rest : (e : ℕ) (xs ys : List Event) → AllFrom law e (xs ++ ys) → AllFrom law (e + frame_ends xs) ys
  from_rest e [] ys each = from_same e (e + frame_ends []) ys (omega arith) each
  from_rest e (x ∷ xs) ys each =
      from_same (e + end_of x + frame_ends xs) (e + frame_ends (x ∷ xs)) ys (omega (arith, sum_by-cons end_of x xs)) (from_rest (e + end_of x) xs ys each.1)

  -- the event at a place keeps it
  pub from_at : (e : ℕ) (xs : List Event) (n : ℕ) (d : Event) → n < length xs → AllFrom law e xs → law (e + frame_ends (take n xs)) (get_or xs n d)
  from_at e [] n d inside each = absurd (omega arith)
  from_at e (x ∷ xs) zero d inside each =
      let same : e ≡ e + frame_ends (take 0 (x ∷ xs)) = omega arith in subst (λ a. law a x) same each.0
  from_at e (x ∷ xs) (suc n) d inside each =
      let same : e + end_of x + frame_ends (take n xs) ≡ e + frame_ends (take (suc n) (x ∷ xs)) = omega (arith, sum_by-cons end_of x (take n xs)) in
      subst (λ a. law a (get_or xs n d)) same (from_at (e + end_of x) xs n d (omega arith) each.1)

  from_joined : (q e n : ℕ) (f : ℕ → List Event) → ((i : ℕ) → frame_ends (f i) ≡ q) → ((i : ℕ) → i < n → AllFrom law (e + i * q) (f i)) → AllFrom law e (joined n f)
  from_joined q e zero f ends each = tt
  from_joined q e (suc n) f ends each =
      from_append e (joined n f) (f n) (from_joined q e n f ends (λ i l. each i (omega arith)))
      (from_same (e + n * q) (e + frame_ends (joined n f)) (f n) (omega (arith, joined_ends q n f ends)) (each n (omega arith)))

  from_slices : (e r : ℕ) (rows : List Row) → All (λ row. law e (slice_of r row)) rows → AllFrom law e (map (slice_of r) rows)
  from_slices e r [] each = tt
  from_slices e r (row ∷ rows) each = (
    each 0 row (omega arith),
    from_same e (e + end_of (slice_of r row)) (map (slice_of r) rows) (omega arith) (from_slices e r rows (λ k d inside. each (suc k) d (omega arith))),
  )

  module _ (at_ends : (e r g : ℕ) → law e (FrameEnd r g)) (rows : List Row) (frames : ℕ) (at_rows : (r : ℕ) → All (λ row. law (r * frames + row.frame) (slice_of r row)) rows) where
    from_frame : (r g : ℕ) → AllFrom law (r * frames + g) (frame_events rows r g)
    from_frame r g =
        let here : All (λ row. law (r * frames + g) (slice_of r row)) (rows_in rows g) =
        all_passing (λ row. eqb row.frame g) (λ row. law (r * frames + g) (slice_of r row)) rows
        (λ k d inside yes.
        let row : Row = get_or rows k d in
        let same : r * frames + row.frame ≡ r * frames + g = omega (arith, eqb-true row.frame g yes) in
        subst (λ a. law a (slice_of r row)) same (at_rows r k d inside))
        in
        from_append (r * frames + g) (map (slice_of r) (rows_in rows g)) (FrameEnd r g ∷ []) (from_slices (r * frames + g) r (rows_in rows g) here)
        (at_ends (r * frames + g + frame_ends (map (slice_of r) (rows_in rows g))) r g, tt)

    -- where each row keeps the law in its frame of every repetition, so does each event of the run
    pub from_run : (n : ℕ) → AllFrom law 0 (run_events rows frames n)
    from_run n =
        from_joined frames 0 n (repetition_events rows frames) (repetition_ends rows frames) (λ r _.
        from_joined 1 (0 + r * frames) frames (frame_events rows r) (frame_ends_once rows r) (λ g _.
        from_same (r * frames + g) (0 + r * frames + g * 1) (frame_events rows r g) (omega arith) (from_frame r g)))
