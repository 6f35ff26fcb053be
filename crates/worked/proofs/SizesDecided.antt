use Rattle.std.proofs.Common.{◌≡◌, ℕ, suc, ◌-◌, ◌*◌, ◌/◌, ◌%◌, ◌<◌, ◌≤◌, Bool, true, not, ◌||◌, eqb, leb, List, [], ◌∷◌, Decides, refl, ⊎_elim, arith}
use Rattle.std.proofs.lemmas.Bool.{and_from, eq-eqb, eqb-true, le-leb, leb-true, not-true, or_cases}
use Rattle.std.proofs.lemmas.Bool.Decides.{Decides-below_and, Decides-like, not_from_Decides}
use Rattle.planning.specs.Placing.{Frames, Fillable, Jobs, Overloaded, every, load}
use Rattle.planning.specs.Sizes.{EverySizeOverloaded, LargestSize, Permitted, frames_of}
use Rattle.planning.proofs.Equivalence.{placing_theorem}
use Rattle.worked.proofs.AllPass.{all_pass, each_of, passes}
use Rattle.worked.proofs.ServesDecided.{divisor_at_most}

-- No run of frames that ends at b is overloaded.
abbrev is_roomy_to : Jobs → Frames → ℕ → Bool
is_roomy_to js fr b = every (suc b) (λ a. leb (load js fr a b) (fr.size * (b - a)))

abbrev pub is_roomy : Jobs → Frames → Bool
is_roomy js fr = every (suc fr.count) (is_roomy_to js fr)

roomy_to_decides : (js : Jobs) (fr : Frames) (b : ℕ) → Decides (is_roomy_to js fr b) ((a : ℕ) → a < suc b → load js fr a b ≤ fr.size * (b - a))
roomy_to_decides js fr b =
    Decides-below_and (λ a. leb (load js fr a b) (fr.size * (b - a))) (λ a. load js fr a b ≤ fr.size * (b - a))
    (λ n. every n (λ a. leb (load js fr a b) (fr.size * (b - a))))
    (λ a. (leb-true (load js fr a b) (fr.size * (b - a)), le-leb (load js fr a b) (fr.size * (b - a)))) refl (λ _. refl) (suc b)

-- Some table fills the frames just where the test of each run passes.
fillable_decides : (js : Jobs) (fr : Frames) → Decides (is_roomy js fr) (Fillable js fr)
fillable_decides js fr =
    Decides-like (is_roomy js fr)
    (λ roomy. (placing_theorem.roomy js fr).1 (λ a b forward inside. roomy b (omega arith) a (omega arith)))
    (λ fillable b below a forward. (placing_theorem.roomy js fr).0 fillable a b (omega arith) (omega arith))
    (Decides-below_and (is_roomy_to js fr) (λ b. (a : ℕ) → a < suc b → load js fr a b ≤ fr.size * (b - a))
    (λ n. every n (is_roomy_to js fr)) (roomy_to_decides js fr) refl (λ _. refl) (suc fr.count))

abbrev permitted_tests : ℕ → ℕ → List Bool
permitted_tests h size = leb 1 size ∷ eqb (h % size) 0 ∷ leb (h / size) 256 ∷ []

permitted_decides : (h size : ℕ) → Decides (all_pass (permitted_tests h size)) (Permitted h size)
permitted_decides h size = (
  λ test.
      let each = passes (permitted_tests h size) test in
      record {
        some = leb-true 1 size (each 0 (omega arith));
        divides = eqb-true (h % size) 0 (each 1 (omega arith));
        few = leb-true (h / size) 256 (each 2 (omega arith));
      },
  λ p. and_from (leb 1 size) _ (le-leb 1 size p.some) (and_from (eqb (h % size) 0) _ (eq-eqb (h % size) 0 p.divides) (and_from (leb (h / size) 256) true (le-leb (h / size) 256 p.few) refl)),
)

-- The size is not permitted, or some run of frames of that size is overloaded.
abbrev pub is_barred : Jobs → ℕ → ℕ → Bool
is_barred js h size = not (all_pass (permitted_tests h size)) || not (is_roomy js (frames_of h size))

-- The size is permitted and roomy, and each larger one is barred.
abbrev pub largest_tests : Jobs → ℕ → ℕ → List Bool
largest_tests js h size =
    all_pass (permitted_tests h size) ∷ is_roomy js (frames_of h size) ∷ every (suc h) (λ other. leb other size || is_barred js h other) ∷ []

module _ (js : Jobs) (h : ℕ) (some : 1 ≤ h) where
  barred : (size : ℕ) → is_barred js h size ≡ true → Permitted h size → Fillable js (frames_of h size) → ⊥
  barred size test p fillable =
      let fr = frames_of h size in
      ⊎_elim {C = ⊥}
      (λ fails. not_from_Decides (all_pass (permitted_tests h size)) (permitted_decides h size) (not-true (all_pass (permitted_tests h size)) fails) p)
      (λ fails. not_from_Decides (is_roomy js fr) (fillable_decides js fr) (not-true (is_roomy js fr) fails) fillable)
      (or_cases (not (all_pass (permitted_tests h size))) (not (is_roomy js fr)) test)

  pub every_size_overloaded : every (suc h) (is_barred js h) ≡ true → EverySizeOverloaded js h
  every_size_overloaded test size p =
      ⊎_elim {C = (a : ℕ) × (b : ℕ) × Overloaded js (frames_of h size) a b}
      (λ fillable. absurd (barred size (each_of (suc h) (is_barred js h) test size (divisor_at_most h size some p.divides)) p fillable))
      (λ run. run)
      (placing_theorem.either js (frames_of h size))

  pub largest_size : (size : ℕ) → all_pass (largest_tests js h size) ≡ true → LargestSize js h size
  largest_size size test =
      let each = passes (largest_tests js h size) test in
      record {
        permitted = (permitted_decides h size).0 (each 0 (omega arith));
        fillable = (fillable_decides js (frames_of h size)).0 (each 1 (omega arith));
        largest = λ other p fillable.
            ⊎_elim {C = other ≤ size}
            (λ low. leb-true other size low)
            (λ fails. absurd (barred other fails p fillable))
            (or_cases (leb other size) (is_barred js h other)
            (each_of (suc h) (λ other. leb other size || is_barred js h other) (each 2 (omega arith)) other (divisor_at_most h other some p.divides)));
      }
