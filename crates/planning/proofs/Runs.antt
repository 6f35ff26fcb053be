use Rattle.std.proofs.Common.{◌≡◌, ℕ, ◌+◌, ◌-◌, ◌*◌, ◌<◌, ◌≤◌, true, cond, not, ◌&&◌, ◌||◌, ltb, leb, Decides, refl, ⊎_elim, arith}
use Rattle.std.proofs.lemmas.Bool.{cases_Bool, cases_lt, cond-false, cond-true}
use Rattle.std.proofs.lemmas.Bool.Decides.{nat_tests, Decides-below_and}
use Rattle.planning.specs.Placing.{every, Jobs, Frames, Gifts, is_open, given, is_confined, load, Fills, Fillable, NoOverload}
use Rattle.planning.specs.Theorems.{NeverBoth}
use Rattle.planning.proofs.Sums.{sum_at_most, sum_of_both, sum_unchanged, sum_grows, rows_at_most}

-- every frame open to job i is from a on and before b
abbrev pub Confined : Jobs → Frames → ℕ → ℕ → ℕ → Type 0
Confined js fr a b i = (g : ℕ) → g < fr.count → is_open js fr g i ≡ true → (a ≤ g) × (g < b)

-- the test answers this question
pub confined_decides : (js : Jobs) (fr : Frames) (a b i : ℕ) → Decides (is_confined js fr a b i) (Confined js fr a b i)
confined_decides js fr a b i =
    Decides-below_and (λ g. not (is_open js fr g i) || (leb a g && ltb g b)) (λ g. is_open js fr g i ≡ true → (a ≤ g) × (g < b))
    (λ n. every n (λ g. not (is_open js fr g i) || (leb a g && ltb g b)))
    (λ g. (λ h yes_open. (grind (arith, nat_tests), grind (arith, nat_tests)), λ h. grind (arith, nat_tests)))
    refl (λ n. refl) fr.count

module _ (js : Jobs) (fr : Frames) (G : Gifts) (fills : Fills js fr G) (a b : ℕ) (forward : a ≤ b) (inside : b ≤ fr.count) where
  -- a job confined to a run is given its cost there
  cost_given_in_run : (i : ℕ) → i < js.count → given G i a + cond (is_confined js fr a b i) (js.cost i) 0 ≤ given G i b
  cost_given_in_run i l =
      ⊎_elim {C = given G i a + cond (is_confined js fr a b i) (js.cost i) 0 ≤ given G i b}
      (λ sure.
      let none : (g : ℕ) → g < fr.count → ((a ≤ g → g < b → ⊥)) → G g i ≡ 0 = λ g below out.
      ⊎_elim {C = G g i ≡ 0}
      (λ some. let at_g = (confined_decides js fr a b i).0 sure g below (fills.within g i below l some) in absurd (out at_g.0 at_g.1))
      (λ (no_gift : G g i ≤ 0). omega arith)
      (cases_lt 0 (G g i))
      in
      omega (
        arith,
        cond-true (is_confined js fr a b i) (js.cost i) 0 sure,
        sum_unchanged 0 a (λ g. G g i) (omega arith) (λ g _ high. none g (omega arith) (λ low _. omega arith)),
        sum_unchanged b fr.count (λ g. G g i) inside (λ g low high. none g high (λ _ under. omega arith)),
        fills.whole i l,
      ))
      (λ other. omega (arith, cond-false (is_confined js fr a b i) (js.cost i) 0 other, sum_grows a b (λ g. G g i) forward))
      (cases_Bool (is_confined js fr a b i))

  run_has_room : load js fr a b ≤ fr.size * (b - a)
  run_has_room =
      let part : ℕ → ℕ = λ i. cond (is_confined js fr a b i) (js.cost i) 0 in
      omega (
        arith,
        sum_at_most js.count (λ i. given G i a + part i) (λ i. given G i b) cost_given_in_run,
        sum_of_both js.count (λ i. given G i a) part,
        rows_at_most js.count a b fr.size G forward (λ g _ high. fills.fits g (omega arith)),
      )

pub fillable_has_no_overload : (js : Jobs) (fr : Frames) → Fillable js fr → NoOverload js fr
fillable_has_no_overload js fr (G, fills) a b forward inside = run_has_room js fr G fills a b forward inside

pub never_both : NeverBoth
never_both js fr fillable a b o = omega (arith, fillable_has_no_overload js fr fillable a b o.forward o.inside, o.over)
