use Rattle.std.proofs.Common.{◌≡◌, ℕ, ◌+◌, ◌*◌, ◌/◌, ◌%◌, ◌<◌, ◌≤◌, sym, ap, ◌∙◌, subst, ⊎_elim, mul-le-mul_right, mul_comm, zero-mul, arith}
use native.Mathlib.Nat.{div-eq_of_eq-mul_right, mul-mod_right, mul-lt-mul_of_pos_left}
use Rattle.std.proofs.lemmas.Bool.{cases_lt}
use Rattle.planning.specs.Placing.{Jobs, Frames, Gifts, Fillable, Finishes, IsGreedy, Overloaded}
use Rattle.planning.specs.FrameRows.{Unfinished}
use Rattle.planning.specs.Sizes.{EverySizeOverloaded, LargestSize, Permitted, frames_of}
use Rattle.planning.proofs.Equivalence.{placing_theorem}
use Rattle.planning.proofs.Greedy.{greedy_exists}
use Rattle.planning.proofs.Steps.{whole_quotient}

-- The divisors of a number come in pairs: where c divides h, so does h / c, and its quotient is c.
module _ (h c : ℕ) (some : 1 ≤ h) (one : 1 ≤ c) (divides : h % c ≡ 0) where
  whole : h / c * c ≡ h
  whole = whole_quotient h c divides

  pub pair_some : 1 ≤ h / c
  pair_some =
      ⊎_elim {C = 1 ≤ h / c}
      (λ none. let zero : h / c * c ≡ 0 = ap (λ k. k * c) (let z : h / c ≡ 0 = omega arith in z) ∙ zero-mul c in absurd (omega (arith, whole)))
      (λ l. l)
      (cases_lt (h / c) 1)

  pub pair_divides : h % (h / c) ≡ 0
  pair_divides = subst (λ n. n % (h / c) ≡ 0) whole (mul-mod_right (h / c) c)

  pub pair_quotient : h / (h / c) ≡ c
  pair_quotient = div-eq_of_eq-mul_right {n = h / c} {m = h} {k = c} pair_some (sym whole)

-- The sizes of fewer than c frames are overloaded.
abbrev pub Tried : Jobs → ℕ → ℕ → Type 0
Tried js h c =
    (d : ℕ) → 1 ≤ d → d < c → h % d ≡ 0 → (a : ℕ) × (b : ℕ) × Overloaded js (record { count = d; size = h / d }) a b

module _ (js : Jobs) (h : ℕ) (some : 1 ≤ h) where
  -- a permitted size of fewer than c frames is overloaded, if those were tried
  tried_overloaded : (c size : ℕ) → Tried js h c → Permitted h size → h / size < c → (a : ℕ) × (b : ℕ) × Overloaded js (frames_of h size) a b
  tried_overloaded c size tried p below =
      let d = h / size in
      let run = tried d (pair_some h size some p.some p.divides) below (pair_divides h size some p.some p.divides) in
      subst (λ s. (a : ℕ) × (b : ℕ) × Overloaded js (record { count = d; size = s }) a b) (pair_quotient h size some p.some p.divides) run

  pub every_size_overloaded : Tried js h 257 → EverySizeOverloaded js h
  every_size_overloaded tried size p = tried_overloaded 257 size tried p (omega (arith, p.few))

  module _ (c : ℕ) (one : 1 ≤ c) (divides : h % c ≡ 0) (tried : Tried js h c) where
    -- where the greedy table of c frames finishes all jobs, their size is the largest that some table fills
    pub largest_size : c ≤ 256 → ((G : Gifts) → IsGreedy js (record { count = c; size = h / c }) G → Finishes js (record { count = c; size = h / c }) G) → LargestSize js h (h / c)
    largest_size few finishes =
        let s = h / c in
        record {
          permitted = record {
            some = pair_some h c some one divides;
            divides = pair_divides h c some one divides;
            few = omega (arith, pair_quotient h c some one divides);
          };
          fillable = subst (λ n. Fillable js (record { count = n; size = s })) (sym (pair_quotient h c some one divides)) ((placing_theorem.finishing js (record { count = c; size = s })).1 finishes);
          largest = λ other p fills.
              ⊎_elim {C = other ≤ s}
              (λ larger.
              let d = h / other in
              let fewer : d < c =
              ⊎_elim {C = d < c} (λ l. l)
              (λ more.
              absurd (omega (arith, whole_quotient h c divides, whole_quotient h other p.divides, mul-le-mul_right other more, mul-lt-mul_of_pos_left {m = s} {n = other} {k = c} larger one, mul_comm c s)))
              (cases_lt d c)
              in
              let run = tried_overloaded c other tried p fewer in
              absurd (placing_theorem.never_both js (frames_of h other) fills run.0 run.1 run.2))
              (λ l. l)
              (cases_lt s other);
        }

    -- and where it does not, that size is overloaded too
    pub one_more_tried : ((G : Gifts) → IsGreedy js (record { count = c; size = h / c }) G → Unfinished js (record { count = c; size = h / c }) G) → (a : ℕ) × (b : ℕ) × Overloaded js (record { count = c; size = h / c }) a b
    one_more_tried fails =
        let fr : Frames = record { count = c; size = h / c } in
        let greedy = greedy_exists js fr in
        let left = fails greedy.0 greedy.1 in
        placing_theorem.overloads js fr greedy.0 greedy.1 left.0 left.1 left.2

-- one more number of frames was tried, where it divides the hyperperiod
pub tried_more : (js : Jobs) (h c : ℕ) → Tried js h c → (h % c ≡ 0 → (a : ℕ) × (b : ℕ) × Overloaded js (record { count = c; size = h / c }) a b) → Tried js h (c + 1)
tried_more js h c tried here d one below divides =
    ⊎_elim {C = (a : ℕ) × (b : ℕ) × Overloaded js (record { count = d; size = h / d }) a b}
    (λ fewer. tried d one fewer divides)
    (λ last.
    let same : c ≡ d = omega arith in
    subst (λ n. h % n ≡ 0 → (a : ℕ) × (b : ℕ) × Overloaded js (record { count = n; size = h / n }) a b) same here divides)
    (cases_lt d c)
