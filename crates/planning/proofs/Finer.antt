use Rattle.std.proofs.Common.{◌≡◌, ℕ, zero, suc, ◌+◌, ◌-◌, ◌*◌, ◌<◌, ◌≤◌, min, max, true, leb, sym, ap, ◌∙◌, mul-le-mul_right, mul_assoc, lt_of_mul-lt-mul_right, arith}
use Rattle.std.proofs.lemmas.Bool.{and_from, and_parts, le-leb, leb-true}
use Rattle.planning.specs.Placing.{Sum, Jobs, Frames, Gifts, is_open, given, Fills, finer}
use Rattle.planning.specs.Theorems.{DivisorsFill}
use Rattle.planning.proofs.Sums.{some_term, sum_at_most, sum_same, sum_swapped, sum_grows}

-- how many ticks the stretches from a up to b and from c up to d share
abbrev shared : ℕ → ℕ → ℕ → ℕ → ℕ
shared a b c d = min b d - max a c

-- stretches end to end share what the whole shares
stretches_share : (X : ℕ → ℕ) (c d : ℕ) → ((i : ℕ) → X i ≤ X (suc i)) → c ≤ d → (n : ℕ) → (X 0 ≤ X n) × (Sum n (λ i. shared (X i) (X (suc i)) c d) ≡ shared (X 0) (X n) c d)
stretches_share X c d grows l zero = (omega arith, omega arith)
stretches_share X c d grows l (suc n) =
    let rest = stretches_share X c d grows l n in
    (omega (arith, rest.0, grows n), omega (arith, rest.0, rest.1, grows n))

-- The gifts of each frame lie end to end from its first tick on, and a finer frame gives what its ticks
-- share with them.
module _ (js : Jobs) (fr : Frames) (q f : ℕ) (is : fr.size ≡ q * f) (G : Gifts) (fills : Fills js fr G) where
  -- the tick at which the gift to job i begins in frame g
  abbrev start : ℕ → ℕ → ℕ
  start g i = g * fr.size + Sum i (G g)

  abbrev part : ℕ → ℕ → ℕ → ℕ
  part h g i = shared (start g i) (start g (suc i)) (h * f) (suc h * f)

  abbrev finer_gifts : Gifts
  finer_gifts h i = Sum fr.count (λ g. part h g i)

  size_is : (g : ℕ) → g * fr.size ≡ g * q * f
  size_is g = ap (λ x. g * x) is ∙ sym (mul_assoc g q f)

  -- the gifts of a frame end with the frame
  start_inside : (g i : ℕ) → g < fr.count → i < js.count → start g (suc i) ≤ suc g * fr.size
  start_inside g i b l = omega (arith, sum_grows (suc i) js.count (G g) l, fills.fits g b)

  finer_fits : (h : ℕ) → Sum js.count (λ i. finer_gifts h i) ≤ f
  finer_fits h =
      let frame_part : ℕ → ℕ = λ g. shared (g * fr.size) (suc g * fr.size) (h * f) (suc h * f) in
      let each : (g : ℕ) → g < fr.count → Sum js.count (λ i. part h g i) ≤ frame_part g = λ g b.
      omega (arith, (stretches_share (start g) (h * f) (suc h * f) (λ i. omega arith) (omega arith) js.count).1, fills.fits g b)
      in
      omega (
        arith,
        sum_swapped js.count fr.count (λ i g. part h g i),
        sum_at_most fr.count (λ g. Sum js.count (λ i. part h g i)) frame_part each,
        (stretches_share (λ g. g * fr.size) (h * f) (suc h * f) (λ g. omega arith) (omega arith) fr.count).1,
      )

  -- the finer frames together give what the frame gives
  parts_make_gift : (g i : ℕ) → g < fr.count → i < js.count → Sum (fr.count * q) (λ h. part h g i) ≡ G g i
  parts_make_gift g i b l =
      let turned : Sum (fr.count * q) (λ h. part h g i) ≡ Sum (fr.count * q) (λ h. shared (h * f) (suc h * f) (start g i) (start g (suc i))) =
      sum_same (fr.count * q) (λ h. part h g i) (λ h. shared (h * f) (suc h * f) (start g i) (start g (suc i))) (λ h _. omega arith)
      in
      omega (
        arith,
        (stretches_share (λ h. h * f) (start g i) (start g (suc i)) (λ h. omega arith) (omega arith) (fr.count * q)).1,
        start_inside g i b l,
        mul-le-mul_right {m = suc g} {n = fr.count} fr.size b,
        size_is fr.count,
      )

  finer_whole : (i : ℕ) → i < js.count → given finer_gifts i (fr.count * q) ≡ js.cost i
  finer_whole i l =
      sum_swapped (fr.count * q) fr.count (λ h g. part h g i)
      ∙ (sum_same fr.count (λ g. Sum (fr.count * q) (λ h. part h g i)) (λ g. G g i) (λ g b. parts_make_gift g i b l) ∙ fills.whole i l)

  finer_within : (h i : ℕ) → i < js.count → 0 < finer_gifts h i → is_open js (finer fr q f) h i ≡ true
  finer_within h i l some =
      let one = some_term fr.count (λ g. part h g i) some in
      let g = one.0 in
      let yes_open = fills.within g i one.1 l (omega (arith, one.2)) in
      let both = and_parts (leb (js.release i) (g * fr.size)) (leb ((g + 1) * fr.size) (js.end i)) yes_open in
      let released : js.release i ≤ g * fr.size = leb-true (js.release i) (g * fr.size) both.0 in
      let ended : (g + 1) * fr.size ≤ js.end i = leb-true ((g + 1) * fr.size) (js.end i) both.1 in
      let after : g * q < suc h = lt_of_mul-lt-mul_right f {m = g * q} {n = suc h} (omega (arith, one.2, size_is g)) in
      let before : h < suc g * q = lt_of_mul-lt-mul_right f {m = h} {n = suc g * q} (omega (arith, one.2, size_is (suc g), start_inside g i one.1 l)) in
      and_from (leb (js.release i) (h * f)) (leb ((h + 1) * f) (js.end i))
      (le-leb (js.release i) (h * f) (omega (arith, size_is g, mul-le-mul_right {m = g * q} {n = h} f (omega arith))))
      (le-leb ((h + 1) * f) (js.end i) (omega (arith, size_is (suc g), mul-le-mul_right {m = suc h} {n = suc g * q} f before)))

pub divisors_fill : DivisorsFill
divisors_fill js fr q f is (G, fills) = (
  finer_gifts js fr q f is G fills,
  record {
    within = λ h i _ l some. finer_within js fr q f is G fills h i l some;
    whole = finer_whole js fr q f is G fills;
    fits = λ h _. finer_fits js fr q f is G fills h;
  },
)
