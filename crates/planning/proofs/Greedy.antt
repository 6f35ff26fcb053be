use Rattle.std.proofs.Common.{◌≡◌, ℕ, zero, suc, ◌+◌, ◌-◌, ◌<◌, ◌≤◌, min, Bool, true, false, cond, sym, refl, ap, ◌∙◌, ⊎_elim, arith}
use Rattle.std.proofs.lemmas.Bool.{both_ways, cases_Bool, cases_lt, cond-false, cond-true}
use Rattle.planning.specs.Placing.{Sum, Jobs, Frames, Gifts, is_open, is_before, given, ahead, greedy_gift, IsGreedy}
use Rattle.planning.specs.Theorems.{ServesInOrder, GreedyExists, GreedyIsOne, GreedyFinishingFills, LoopFactsAreGreedy}
use Rattle.planning.proofs.Sums.{sum_same}
use Rattle.planning.proofs.Order.{ahead_within_row, shared_ahead, shared_in_all}

-- what job i wants of frame g, where each job has got something before: what it lacks, if the frame is
-- open to it
abbrev wants : Jobs → Frames → ℕ → (ℕ → ℕ) → ℕ → ℕ
wants js fr g got i = cond (is_open js fr g i) (js.cost i - got i) 0

-- its share, by what those before it want and not by what they are given
abbrev share : Jobs → Frames → ℕ → (ℕ → ℕ) → ℕ → ℕ
share js fr g got i = min (wants js fr g got i) (fr.size - ahead js (wants js fr g got) i)

min_of_cond : (t : Bool) (x y : ℕ) → cond t (min x y) 0 ≡ min (cond t x 0) y
min_of_cond true x y = refl
min_of_cond false x y = omega arith

module _ (js : Jobs) (fr : Frames) (G : Gifts) (g : ℕ) where
  -- the row of a greedy table is that of the shares
  module _ (row_is : (i : ℕ) → i < js.count → G g i ≡ greedy_gift js fr G g i) where
    greedy_each : (i : ℕ) → i < js.count → ahead js (G g) i ≡ min fr.size (ahead js (wants js fr g (λ k. given G k g)) i) → G g i ≡ share js fr g (λ k. given G k g) i
    greedy_each i l same =
        omega (arith, row_is i l, min_of_cond (is_open js fr g i) (js.cost i - given G i g) (fr.size - ahead js (λ k. G g k) i))

    greedy_row : (i : ℕ) → i < js.count → G g i ≡ share js fr g (λ k. given G k g) i
    greedy_row i l = greedy_each i l (shared_ahead js fr.size (wants js fr g (λ k. given G k g)) (G g) greedy_each i l)

    greedy_row_fits : Sum js.count (λ i. G g i) ≤ fr.size
    greedy_row_fits = omega (arith, shared_in_all js fr.size (wants js fr g (λ k. given G k g)) (G g) greedy_each)

  -- and the row of the shares is that of a greedy table
  share_row : ((i : ℕ) → i < js.count → G g i ≡ share js fr g (λ k. given G k g) i) → (i : ℕ) → i < js.count → G g i ≡ greedy_gift js fr G g i
  share_row shares i l =
      omega (arith, shares i l, shared_ahead js fr.size (wants js fr g (λ k. given G k g)) (G g) (λ k m _. shares k m) i l, min_of_cond (is_open js fr g i) (js.cost i - given G i g) (fr.size - ahead js (λ k. G g k) i))

  -- equal beginnings give equal shares
  share_same : (a b : ℕ → ℕ) → ((k : ℕ) → k < js.count → a k ≡ b k) → (i : ℕ) → i < js.count → share js fr g a i ≡ share js fr g b i
  share_same a b same i l =
      let want : (k : ℕ) → k < js.count → wants js fr g a k ≡ wants js fr g b k = λ k m. ap (λ x. cond (is_open js fr g k) (js.cost k - x) 0) (same k m) in
      omega (arith, want i l, sum_same js.count (λ k. cond (is_before js k i) (wants js fr g a k) 0) (λ k. cond (is_before js k i) (wants js fr g b k) 0) (λ k m. ap (λ x. cond (is_before js k i) x 0) (want k m)))

module _ (js : Jobs) (fr : Frames) where
  -- what each job has got before frame t, share after share
  abbrev got : ℕ → ℕ → ℕ
  got zero i = 0
  got (suc t) i = got t i + share js fr t (got t) i

  given_is_got : (t i : ℕ) → given (λ g k. share js fr g (got g) k) i t ≡ got t i
  given_is_got zero i = refl
  given_is_got (suc t) i = omega (arith, given_is_got t i)

pub greedy_exists : GreedyExists
greedy_exists js fr =
    let G : Gifts = λ g i. share js fr g (got js fr g) i in
    (G, λ g i _ l. share_row js fr G g (λ k m. share_same js fr G g (got js fr g) (λ j. given G j g) (λ j _. sym (given_is_got js fr g j)) k m) i l)

pub greedy_is_one : GreedyIsOne
greedy_is_one js fr G K greedy also =
    let row : (g : ℕ) → g < fr.count → ((k : ℕ) → k < js.count → given G k g ≡ given K k g) → (i : ℕ) → i < js.count → G g i ≡ K g i = λ g below same i l.
    greedy_row js fr G g (λ k m. greedy g k below m) i l
    ∙ (share_same js fr G g (λ k. given G k g) (λ k. given K k g) same i l ∙ sym (greedy_row js fr K g (λ k m. also g k below m) i l))
    in
    let before : (t : ℕ) → t ≤ fr.count → (k : ℕ) → k < js.count → given G k t ≡ given K k t =
    equal_before js.count fr.count G K row
    in
    λ g i below l. row g below (before g (omega arith)) i l
  where
    equal_before : (n m : ℕ) (G K : Gifts) → ((g : ℕ) → g < m → ((k : ℕ) → k < n → given G k g ≡ given K k g) → (i : ℕ) → i < n → G g i ≡ K g i) → (t : ℕ) → t ≤ m → (k : ℕ) → k < n → given G k t ≡ given K k t
    equal_before n m G K row zero l k b = refl
    equal_before n m G K row (suc t) l k b =
        omega (arith, equal_before n m G K row t (omega arith) k b, row t l (equal_before n m G K row t (omega arith)) k b)

module _ (js : Jobs) (fr : Frames) (G : Gifts) (greedy : IsGreedy js fr G) where
  -- a gift, by whether the frame is open to the job
  gift_where_open : (g i : ℕ) → g < fr.count → i < js.count → is_open js fr g i ≡ true → G g i ≡ min (js.cost i - given G i g) (fr.size - ahead js (λ k. G g k) i)
  gift_where_open g i b l yes_open = greedy g i b l ∙ cond-true (is_open js fr g i) (min (js.cost i - given G i g) (fr.size - ahead js (λ k. G g k) i)) 0 yes_open

  gift_where_shut : (g i : ℕ) → g < fr.count → i < js.count → is_open js fr g i ≡ false → G g i ≡ 0
  gift_where_shut g i b l shut = greedy g i b l ∙ cond-false (is_open js fr g i) (min (js.cost i - given G i g) (fr.size - ahead js (λ k. G g k) i)) 0 shut

  gift_at_most_lack : (g i : ℕ) → g < fr.count → i < js.count → G g i ≤ js.cost i - given G i g
  gift_at_most_lack g i b l =
      ⊎_elim {C = G g i ≤ js.cost i - given G i g}
      (λ yes_open. omega (arith, gift_where_open g i b l yes_open))
      (λ shut. omega (arith, gift_where_shut g i b l shut))
      (cases_Bool (is_open js fr g i))

  given_at_most_cost : (i : ℕ) → i < js.count → (t : ℕ) → t ≤ fr.count → given G i t ≤ js.cost i
  given_at_most_cost i l zero b = omega arith
  given_at_most_cost i l (suc t) b = omega (arith, given_at_most_cost i l t (omega arith), gift_at_most_lack t i b l)

  greedy_serves_in_order : ServesInOrder js fr G
  greedy_serves_in_order =
      record {
        within = λ g i b l some.
            ⊎_elim {C = is_open js fr g i ≡ true} (λ yes_open. yes_open) (λ shut. absurd (omega (arith, gift_where_shut g i b l shut))) (cases_Bool (is_open js fr g i));
        most = given_at_most_cost;
        fits = λ g b. greedy_row_fits js fr G g (λ i l. greedy g i b l);
        eager = λ g i b l yes_open short. omega (arith, gift_where_open g i b l yes_open);
      }

module _ (js : Jobs) (fr : Frames) (G : Gifts) (s : ServesInOrder js fr G) where
  in_order_is_greedy : IsGreedy js fr G
  in_order_is_greedy g i b l =
      let lack = js.cost i - given G i g in
      let left = fr.size - ahead js (λ k. G g k) i in
      let most : given G i g + G g i ≤ js.cost i = s.most i l (suc g) b in
      let room : ahead js (λ k. G g k) i + G g i ≤ fr.size = omega (arith, ahead_within_row js (G g) i l, s.fits g b) in
      ⊎_elim {C = G g i ≡ cond (is_open js fr g i) (min lack left) 0}
      (λ yes_open.
      ⊎_elim {C = G g i ≡ min lack left}
      (λ short. omega (arith, s.eager g i b l yes_open short))
      (λ (whole : js.cost i ≤ given G i g + G g i). omega arith)
      (cases_lt (given G i (suc g)) (js.cost i))
      ∙ sym (cond-true (is_open js fr g i) (min lack left) 0 yes_open))
      (λ shut.
      ⊎_elim {C = G g i ≡ 0} (λ some. absurd (both_ways (is_open js fr g i) shut (s.within g i b l some))) (λ (none : G g i ≤ 0). omega arith) (cases_lt 0 (G g i))
      ∙ sym (cond-false (is_open js fr g i) (min lack left) 0 shut))
      (cases_Bool (is_open js fr g i))

pub loop_facts_are_greedy : LoopFactsAreGreedy
loop_facts_are_greedy js fr G = (in_order_is_greedy js fr G, greedy_serves_in_order js fr G)

pub greedy_finishing_fills : GreedyFinishingFills
greedy_finishing_fills js fr G greedy finishes =
    let s = greedy_serves_in_order js fr G greedy in
    record { within = s.within; whole = finishes; fits = s.fits }
