use Rattle.std.proofs.Common.{◌≡◌, ℕ, zero, suc, ◌<◌, ◌≤◌, ◌⊎◌, inl, inr, ⊎_elim, arith}
use Rattle.std.proofs.lemmas.Bool.{cases_lt}
use Rattle.planning.specs.Placing.{Jobs, Frames, Gifts, given, Fillable, IsGreedy, Finishes, Overloaded, NoOverload}
use Rattle.planning.specs.Theorems.{PlacingTheorem, FillableIsGreedyFinishing, FillableIsNoOverload, FillableOrOverloaded}
use Rattle.planning.proofs.Greedy.{greedy_exists, greedy_finishing_fills, loop_facts_are_greedy}
use Rattle.planning.proofs.Runs.{fillable_has_no_overload, never_both}
use Rattle.planning.proofs.Unfinished.{greedy_unfinished_overloads}

-- each y is at most its x, or there is one that is greater
all_or_one : (n : ℕ) (x y : ℕ → ℕ) → ((i : ℕ) → i < n → y i ≤ x i) ⊎ ((i : ℕ) × (i < n) × (x i < y i))
all_or_one zero x y = inl (λ i h. absurd (omega arith))
all_or_one (suc n) x y =
    ⊎_elim {C = ((i : ℕ) → i < suc n → y i ≤ x i) ⊎ ((i : ℕ) × (i < suc n) × (x i < y i))}
    (λ greater. inr (n, omega arith, greater))
    (λ (last : y n ≤ x n).
    ⊎_elim {C = ((i : ℕ) → i < suc n → y i ≤ x i) ⊎ ((i : ℕ) × (i < suc n) × (x i < y i))}
    (λ rest. inl (λ i h. ⊎_elim {C = y i ≤ x i} (λ low. rest i low) (λ top. at_last i h top last) (cases_lt i n)))
    (λ one. inr (one.0, omega (arith, one.1), one.2))
    (all_or_one n x y))
    (cases_lt (x n) (y n))
  where
    at_last : (i : ℕ) → i < suc n → n ≤ i → y n ≤ x n → y i ≤ x i
    at_last i h top last = let e : i ≡ n = omega arith in rw e last

module _ (js : Jobs) (fr : Frames) where
  -- where no job lacks anything, each has its cost and no more
  finishes_from : (G : Gifts) → IsGreedy js fr G → ((i : ℕ) → i < js.count → js.cost i ≤ given G i fr.count) → Finishes js fr G
  finishes_from G greedy enough i l = omega (arith, enough i l, ((loop_facts_are_greedy js fr G).1 greedy).most i l fr.count (omega arith))

  no_overload_finishes : NoOverload js fr → (G : Gifts) → IsGreedy js fr G → Finishes js fr G
  no_overload_finishes roomy G greedy =
      finishes_from G greedy (λ i l.
      ⊎_elim {C = js.cost i ≤ given G i fr.count}
      (λ short.
      let run = greedy_unfinished_overloads js fr G greedy i l short in
      absurd (omega (arith, roomy run.0 run.1 run.2.forward run.2.inside, run.2.over)))
      (λ enough. enough)
      (cases_lt (given G i fr.count) (js.cost i)))

  greedy_finishing_fillable : ((G : Gifts) → IsGreedy js fr G → Finishes js fr G) → Fillable js fr
  greedy_finishing_fillable finishes =
      let table = greedy_exists js fr in
      (table.0, greedy_finishing_fills js fr table.0 table.1 (finishes table.0 table.1))

fillable_is_greedy_finishing : FillableIsGreedyFinishing
fillable_is_greedy_finishing js fr =
    (λ fillable. no_overload_finishes js fr (fillable_has_no_overload js fr fillable), greedy_finishing_fillable js fr)

fillable_is_no_overload : FillableIsNoOverload
fillable_is_no_overload js fr =
    (fillable_has_no_overload js fr, λ roomy. greedy_finishing_fillable js fr (no_overload_finishes js fr roomy))

fillable_or_overloaded : FillableOrOverloaded
fillable_or_overloaded js fr =
    let table = greedy_exists js fr in
    let G = table.0 in
    ⊎_elim {C = Fillable js fr ⊎ ((a : ℕ) × (b : ℕ) × Overloaded js fr a b)}
    (λ enough. inl (G, greedy_finishing_fills js fr G table.1 (finishes_from js fr G table.1 enough)))
    (λ one. inr (greedy_unfinished_overloads js fr G table.1 one.0 one.1 one.2))
    (all_or_one js.count (λ i. given G i fr.count) js.cost)

pub placing_theorem : PlacingTheorem
placing_theorem =
    record {
      fills = greedy_finishing_fills;
      overloads = greedy_unfinished_overloads;
      finishing = fillable_is_greedy_finishing;
      roomy = fillable_is_no_overload;
      either = fillable_or_overloaded;
      never_both = never_both;
    }
