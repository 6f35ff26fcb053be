use Rattle.std.proofs.Common.{◌≡◌, ℕ, zero, suc, ◌+◌, ◌-◌, ◌*◌, ◌<◌, ◌≤◌, Bool, true, cond, eqb, sym, refl, ap, ⊎_elim, mul-suc, add-one, arith}
use native.Mathlib.Decide.{le_ind}
use Rattle.std.proofs.lemmas.Bool.{cases_Bool, cases_lt, cond-false, cond-true}
use Rattle.std.proofs.lemmas.Bool.Decides.{nat_tests}
use Rattle.planning.specs.Placing.{Sum}

-- greater terms, greater sum
pub sum_at_most : (n : ℕ) (h k : ℕ → ℕ) → ((i : ℕ) → i < n → h i ≤ k i) → Sum n h ≤ Sum n k
sum_at_most zero h k each = omega arith
sum_at_most (suc n) h k each = omega (arith, sum_at_most n h k (λ i l. each i (omega arith)), each n (omega arith))

-- equal terms, equal sum
pub sum_same : (n : ℕ) (h k : ℕ → ℕ) → ((i : ℕ) → i < n → h i ≡ k i) → Sum n h ≡ Sum n k
sum_same zero h k each = refl
sum_same (suc n) h k each = omega (arith, sum_same n h k (λ i l. each i (omega arith)), each n (omega arith))

pub sum_of_both : (n : ℕ) (h k : ℕ → ℕ) → Sum n (λ i. h i + k i) ≡ Sum n h + Sum n k
sum_of_both zero h k = refl
sum_of_both (suc n) h k = omega (arith, sum_of_both n h k)

pub sum_of_zeros : (n : ℕ) → Sum n (λ _. 0) ≡ 0
sum_of_zeros zero = refl
sum_of_zeros (suc n) = omega (arith, sum_of_zeros n)

pub sum_of_ones : (n : ℕ) → Sum n (λ _. 1) ≡ n
sum_of_ones zero = refl
sum_of_ones (suc n) = omega (arith, sum_of_ones n)

-- rows first or columns first
pub sum_swapped : (n m : ℕ) (h : ℕ → ℕ → ℕ) → Sum n (λ i. Sum m (λ j. h i j)) ≡ Sum m (λ j. Sum n (λ i. h i j))
sum_swapped zero m h = sym (sum_of_zeros m)
sum_swapped (suc n) m h = omega (arith, sum_swapped n m h, sum_of_both m (λ j. Sum n (λ i. h i j)) (h n))

-- a longer sum is no less
pub sum_grows : (a b : ℕ) (h : ℕ → ℕ) → a ≤ b → Sum a h ≤ Sum b h
sum_grows a b h l = le_ind (λ t. Sum a h ≤ Sum t h) (omega arith) (λ t _ below. omega arith) b l

-- and is the same where the terms that it adds are 0
pub sum_unchanged : (a b : ℕ) (h : ℕ → ℕ) → a ≤ b → ((i : ℕ) → a ≤ i → i < b → h i ≡ 0) → Sum b h ≡ Sum a h
sum_unchanged a b h l none =
    le_ind (λ t. t ≤ b → Sum t h ≡ Sum a h) (λ _. refl)
    (λ t low same high. omega (arith, same (omega arith), none t low (omega arith))) b l (omega arith)

pub term_at_most_sum : (n : ℕ) (h : ℕ → ℕ) (i : ℕ) → i < n → h i ≤ Sum n h
term_at_most_sum n h i l = omega (arith, sum_grows (suc i) n h l)

-- x at j alone
abbrev pub only : ℕ → ℕ → ℕ → ℕ
only j x i = cond (eqb i j) x 0

pub only_here : (j x : ℕ) → only j x j ≡ x
only_here j x = grind (arith, nat_tests)

pub only_elsewhere : (j x i : ℕ) → (i ≡ j → ⊥) → only j x i ≡ 0
only_elsewhere j x i apart = grind (arith, nat_tests)

pub sum_of_only : (n j x : ℕ) → j < n → Sum n (only j x) ≡ x
sum_of_only n j x l =
    let after : Sum n (only j x) ≡ Sum (suc j) (only j x) = sum_unchanged (suc j) n (only j x) l (λ i low _. only_elsewhere j x i (λ e. omega arith)) in
    let before : Sum j (only j x) ≡ 0 = sum_unchanged 0 j (only j x) (omega arith) (λ i _ high. only_elsewhere j x i (λ e. omega arith)) in
    omega (arith, only_here j x)

-- one term that is greater by x makes the sum greater by x
pub sum_with_more : (n j x : ℕ) (h k : ℕ → ℕ) → j < n → ((i : ℕ) → i < n → h i + only j x i ≤ k i) → Sum n h + x ≤ Sum n k
sum_with_more n j x h k l each =
    omega (arith, sum_at_most n (λ i. h i + only j x i) k each, sum_of_both n h (only j x), sum_of_only n j x l)

-- a test that no two numbers below n pass is passed by one at most
pub sum_of_one : (n : ℕ) (test : ℕ → Bool) → ((i k : ℕ) → i < k → k < n → test i ≡ true → test k ≡ true → ⊥) → Sum n (λ i. cond (test i) 1 0) ≤ 1
sum_of_one zero test apart = omega arith
sum_of_one (suc n) test apart =
    ⊎_elim {C = Sum (suc n) (λ i. cond (test i) 1 0) ≤ 1}
    (λ last.
    let none : Sum n (λ i. cond (test i) 1 0) ≡ 0 = sum_unchanged 0 n (λ i. cond (test i) 1 0) (omega arith) (λ i _ high.
    ⊎_elim {C = cond (test i) 1 0 ≡ 0} (λ also. absurd (apart i n high (omega arith) also last)) (cond-false (test i) 1 0) (cases_Bool (test i)))
    in
    omega (arith, cond-true {A = ℕ} (test n) 1 0 last))
    (λ other. omega (arith, cond-false {A = ℕ} (test n) 1 0 other, sum_of_one n test (λ i k l m. apart i k l (omega arith))))
    (cases_Bool (test n))

-- where each row from a up to b sums to at least f, the columns grow by f a row
pub rows_at_least : (m a b f : ℕ) (h : ℕ → ℕ → ℕ) → a ≤ b → ((g : ℕ) → a ≤ g → g < b → f ≤ Sum m (h g)) → Sum m (λ k. Sum a (λ g. h g k)) + f * (b - a) ≤ Sum m (λ k. Sum b (λ g. h g k))
rows_at_least m a b f h l each =
    le_ind (λ t. t ≤ b → Sum m (λ k. Sum a (λ g. h g k)) + f * (t - a) ≤ Sum m (λ k. Sum t (λ g. h g k)))
    (λ _. omega (arith, ap (λ x. f * x) (let z : a - a ≡ 0 = omega arith in z)))
    (λ t low before high.
    omega (arith, before (omega arith), each t low (omega arith), sum_of_both m (λ k. Sum t (λ g. h g k)) (h t), ap (λ x. f * x) (let z : suc t - a ≡ suc (t - a) = omega arith in z), mul-suc f (t - a)))
    b l (omega arith)

-- and where each sums to at most f, they grow by no more
pub rows_at_most : (m a b f : ℕ) (h : ℕ → ℕ → ℕ) → a ≤ b → ((g : ℕ) → a ≤ g → g < b → Sum m (h g) ≤ f) → Sum m (λ k. Sum b (λ g. h g k)) ≤ Sum m (λ k. Sum a (λ g. h g k)) + f * (b - a)
rows_at_most m a b f h l each =
    le_ind (λ t. t ≤ b → Sum m (λ k. Sum t (λ g. h g k)) ≤ Sum m (λ k. Sum a (λ g. h g k)) + f * (t - a))
    (λ _. omega arith)
    (λ t low before high.
    omega (arith, before (omega arith), each t low (omega arith), sum_of_both m (λ k. Sum t (λ g. h g k)) (h t), ap (λ x. f * x) (let z : suc t - a ≡ suc (t - a) = omega arith in z), mul-suc f (t - a)))
    b l (omega arith)

-- a sum has one term more
pub sum_more : (n : ℕ) (h : ℕ → ℕ) → Sum (n + 1) h ≡ Sum n h + h n
sum_more n h = rw (add-one n) refl

-- a sum above 0 has a term above 0
pub some_term : (n : ℕ) (h : ℕ → ℕ) → 0 < Sum n h → (i : ℕ) × (i < n) × (0 < h i)
some_term zero h some = absurd (omega arith)
some_term (suc n) h some =
    ⊎_elim {C = (i : ℕ) × (i < suc n) × (0 < h i)}
    (λ here. (n, omega arith, here))
    (λ (none : h n ≤ 0). let before = some_term n h (omega arith) in (before.0, omega (arith, before.1), before.2))
    (cases_lt 0 (h n))
