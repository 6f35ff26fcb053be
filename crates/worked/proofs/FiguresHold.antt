use Rattle.std.proofs.Common.{◌≡◌, ℕ, suc, ◌%◌, ◌≤◌, Bool, true, eqb, leb, List, [], ◌∷◌, get_or, is_some, All, None, Option, refl, inr, arith}
use Rattle.std.proofs.lemmas.Bool.{and_parts, leb-true}
use Rattle.std.proofs.lemmas.List.Elements.{All-cons, All-nil}
use Rattle.books.specs.Meaning.{Meaning}
use Rattle.books.specs.Sets.{gridded, is_within}
use Rattle.planning.specs.declared.job.Figures.{Figures}
use Rattle.planning.specs.Hyperperiod.{NoneServes}
use Rattle.planning.specs.Placing.{Jobs, every}
use Rattle.planning.specs.Plans.{Prepared, book_jobs, jobs_in}
use Rattle.planning.specs.Refusals.{CeilingInRange, CountInRange}
use Rattle.planning.specs.Windows.{placed}
use Rattle.sheets.specs.Sheets.{meaning_of}
use Rattle.worked.specs.Worked.{Figure, Finds, Found, Holds, Periods, PlanRefused, SeekRefused, Size, WorkedFigures, period_at, seven_to_nine, ten_to_twelve, worked_figures}
use Rattle.worked.proofs.AllPass.{all_pass, each_of, passes}
use Rattle.worked.proofs.ServesDecided.{chosen_period, is_chosen, least_hyperperiod, least_tests, no_period_none_serves, none_serves}
use Rattle.worked.proofs.SizesDecided.{every_size_overloaded, is_barred, largest_size, largest_tests}

-- The ceiling and the count are in range.
abbrev range_tests : Meaning → ℕ → List Bool
range_tests m ceiling = leb 1 ceiling ∷ leb ceiling 1000000 ∷ leb 1 m.count ∷ leb m.count 16 ∷ []

in_range : (m : Meaning) (ceiling : ℕ) → all_pass (range_tests m ceiling) ≡ true → CeilingInRange ceiling × CountInRange m
in_range m ceiling test =
    let each = passes (range_tests m ceiling) test in (
      (leb-true 1 ceiling (each 0 (omega arith)), leb-true ceiling 1000000 (each 1 (omega arith))),
      (leb-true 1 m.count (each 2 (omega arith)), leb-true m.count 16 (each 3 (omega arith))),
    )

-- They are, and this is the least hyperperiod, and these are the chosen periods.
abbrev periods_tests : Meaning → ℕ → ℕ → List ℕ → List Bool
periods_tests m ceiling h periods =
    all_pass (range_tests m ceiling) ∷ all_pass (least_tests m ceiling h) ∷ every m.count (λ task. is_chosen m h task (period_at periods task)) ∷ []

periods_found : (m : Meaning) (charges : List (Option Figures)) (ceiling h : ℕ) (periods : List ℕ) → all_pass (periods_tests m ceiling h periods) ≡ true → Finds m charges ceiling (Periods h periods)
periods_found m charges ceiling h periods test =
    let each = passes (periods_tests m ceiling h periods) test in
    let range = in_range m ceiling (each 0 (omega arith)) in
    let least = least_hyperperiod m ceiling h (each 1 (omega arith)) in (
      (range.0, range.1, least),
      λ task below.
          chosen_period m h task (period_at periods task) least.low
          (each_of m.count (λ task. is_chosen m h task (period_at periods task)) (each 2 (omega arith)) task below),
    )

-- All that, and every task has a cost and a deadline, and the jobs are few enough.
abbrev plan_tests : Meaning → List (Option Figures) → ℕ → ℕ → List ℕ → List Bool
plan_tests m charges ceiling h periods =
    all_pass (periods_tests m ceiling h periods)
    ∷ every m.count (λ task. is_some (get_or charges task None))
    ∷ leb (jobs_in h (period_at periods) m.count) 1024
    ∷ []

-- The jobs of the tasks at these periods.
abbrev jobs_at : Meaning → List (Option Figures) → ℕ → List ℕ → Jobs
jobs_at m charges h periods = placed (book_jobs m charges h (period_at periods))

-- What is computed to show what is found; that no number serves the book is shown apart.
abbrev Shown : Meaning → List (Option Figures) → ℕ → Found → Type 0
Shown m charges ceiling (Periods h periods) = all_pass (periods_tests m ceiling h periods) ≡ true
Shown m charges ceiling (Size h periods size) =
    (all_pass (plan_tests m charges ceiling h periods) ≡ true) × (all_pass (largest_tests (jobs_at m charges h periods) h size) ≡ true)
Shown m charges ceiling (SeekRefused number) = (number ≡ 7) × (all_pass (range_tests m ceiling) ≡ true) × NoneServes m ceiling
Shown m charges ceiling (PlanRefused number) =
    (number ≡ 9)
    × (h : ℕ)
    × (periods : List ℕ)
    × (all_pass (plan_tests m charges ceiling h periods) ≡ true)
    × (every (suc h) (is_barred (jobs_at m charges h periods) h) ≡ true)

module _ (m : Meaning) (charges : List (Option Figures)) (ceiling h : ℕ) (periods : List ℕ) (test : all_pass (plan_tests m charges ceiling h periods) ≡ true) where
  prepared : Prepared m charges ceiling h (period_at periods)
  prepared =
      let each = passes (plan_tests m charges ceiling h periods) test in
      let found = periods_found m charges ceiling h periods (each 0 (omega arith)) in
      record {
        ceiling_fits = found.0.0;
        count_fits = found.0.1;
        charged = each_of m.count (λ task. is_some (get_or charges task None)) (each 1 (omega arith));
        least = found.0.2;
        chosen = found.1;
      }

  few_jobs : jobs_in h (period_at periods) m.count ≤ 1024
  few_jobs = leb-true (jobs_in h (period_at periods) m.count) 1024 (passes (plan_tests m charges ceiling h periods) test 2 (omega arith))

shown_found : (m : Meaning) (charges : List (Option Figures)) (ceiling : ℕ) (found : Found) → Shown m charges ceiling found → Finds m charges ceiling found
shown_found m charges ceiling (Periods h periods) test = periods_found m charges ceiling h periods test
shown_found m charges ceiling (Size h periods size) (test, largest) =
    let ready = prepared m charges ceiling h periods test in
    (ready, few_jobs m charges ceiling h periods test, largest_size (jobs_at m charges h periods) h ready.least.low size largest)
shown_found m charges ceiling (SeekRefused number) (seven, test, none) =
    let range = in_range m ceiling test in inr (seven, refl, range.0, range.1, none)
shown_found m charges ceiling (PlanRefused number) (nine, h, periods, test, barred) =
    let ready = prepared m charges ceiling h periods test in
    inr (inr (inr (inr (
      nine,
      refl,
      record {
        hyperperiod = h;
        period = period_at periods;
        prepared = ready;
        few = few_jobs m charges ceiling h periods test;
        overloaded = every_size_overloaded (jobs_at m charges h periods) h ready.least.low barred;
      },
    ))))

-- What is computed for each figure of a list.
abbrev EachShown : List Figure → Type 0
EachShown [] = Unit {0}
EachShown (figure ∷ rest) = Shown figure.book figure.charges figure.ceiling figure.found × EachShown rest

each_holds : (figures : List Figure) → EachShown figures → All Holds figures
each_holds [] shown = All-nil Holds
each_holds (figure ∷ rest) (one, shown) =
    All-cons Holds figure rest (shown_found figure.book figure.charges figure.ceiling figure.found one) (each_holds rest shown)

-- No number from 7 to 9 is on the grid of step 5, and other periods the task has not.
none_on_the_grid : NoneServes (gridded 5 (meaning_of (seven_to_nine ∷ []))) 1000000
none_on_the_grid =
    no_period_none_serves (gridded 5 (meaning_of (seven_to_nine ∷ []))) 1000000 0 10 (omega arith)
    (λ p allowed.
    let within = (and_parts (is_within 7 9 p) (eqb (p % 5) 0) allowed).0 in
    let high = leb-true p 9 (and_parts (leb 7 p) (leb p 9) within).1 in
    omega arith)
    refl

-- A list of facts, one below the other.
infixr 5 ◌also◌
◌also◌ : {A B : Type 0} → A → B → A × B
◌also◌ a b = (a, b)

-- One line for each figure; a refused plan names the hyperperiod and the periods that it is refused at.
pub figures_hold : WorkedFigures
figures_hold =
    each_holds worked_figures
    (refl
    also (refl, refl, none_serves (meaning_of (ten_to_twelve ∷ seven_to_nine ∷ [])) 23 refl)
    also (refl, refl)
    also refl
    also (refl, refl, none_on_the_grid)
    also (refl, refl)
    also (refl, 6, 2 ∷ 3 ∷ [], refl, refl)
    also (refl, refl)
    also (refl, 4, 4 ∷ [], refl, refl)
    also (refl, 257, 257 ∷ [], refl, refl)
    also (refl, refl)
    also tt)
