use Rattle.std.proofs.Common.{◌≡◌, ℕ, zero, suc, ◌%◌, ◌<◌, ◌≤◌, Bool, true, false, not, ◌&&◌, ◌||◌, eqb, leb, List, [], ◌∷◌, Decides, refl, ⊎_elim, mod-eq_of_lt, arith}
use Rattle.std.proofs.lemmas.Bool.{and_parts, both_ways, cases_lt, leb-true, not-true, or_cases}
use Rattle.std.proofs.lemmas.Bool.Decides.{Decides-and, Decides-below_and, Decides-below_or, Decides-eqb, Decides-like, not_from_Decides}
use Rattle.books.specs.Meaning.{Meaning}
use Rattle.planning.specs.Hyperperiod.{AllowedDivisor, Chosen, LeastHyperperiod, NoneServes, Serves, ServesTask}
use Rattle.planning.specs.Placing.{every}
use Rattle.worked.proofs.AllPass.{all_pass, each_of, passes}

-- A divisor of a number from 1 on is no greater.
pub divisor_at_most : (n p : ℕ) → 1 ≤ n → n % p ≡ 0 → p < suc n
divisor_at_most n p some divides =
    ⊎_elim {C = p < suc n} (λ l. l) (λ above. absurd (omega (arith, mod-eq_of_lt {n = n} {m = p} above))) (cases_lt p (suc n))

-- The test holds of some number below n.
abbrev some : ℕ → (ℕ → Bool) → Bool
some zero test = false
some (suc n) test = test n || some n test

abbrev is_divisor : Meaning → ℕ → ℕ → ℕ → Bool
is_divisor m n task p = m.allowed task p && eqb (n % p) 0

divisor_decides : (m : Meaning) (n task p : ℕ) → Decides (is_divisor m n task p) (AllowedDivisor m n task p)
divisor_decides m n task p = Decides-and (m.allowed task p) (eqb (n % p) 0) (λ e. e, λ e. e) (Decides-eqb (n % p) 0)

abbrev is_served : Meaning → ℕ → ℕ → Bool
is_served m n task = some (suc n) (is_divisor m n task)

served_decides : (m : Meaning) (n task : ℕ) → 1 ≤ n → Decides (is_served m n task) (ServesTask m n task)
served_decides m n task one =
    Decides-like (is_served m n task) (λ found. (found.0, found.2)) (λ serves. (serves.0, divisor_at_most n serves.0 one serves.1.1, serves.1))
    (Decides-below_or (is_divisor m n task) (AllowedDivisor m n task) (λ k. some k (is_divisor m n task)) (divisor_decides m n task) refl (λ _. refl) (suc n))

abbrev is_serving : Meaning → ℕ → Bool
is_serving m n = every m.count (is_served m n)

serving_decides : (m : Meaning) (n : ℕ) → 1 ≤ n → Decides (is_serving m n) (Serves m n)
serving_decides m n one =
    Decides-below_and (is_served m n) (ServesTask m n) (λ k. every k (is_served m n)) (λ task. served_decides m n task one) refl (λ _. refl) m.count

-- No number from 1 on and below the bound serves the book.
abbrev pub is_unserved : Meaning → ℕ → Bool
is_unserved m bound = every bound (λ n. eqb n 0 || not (is_serving m n))

unserved : (m : Meaning) (bound : ℕ) → is_unserved m bound ≡ true → (n : ℕ) → 1 ≤ n → n < bound → Serves m n → ⊥
unserved m bound test n one below =
    ⊎_elim {C = Serves m n → ⊥}
    (λ zero. absurd (omega (arith, (Decides-eqb n 0).0 zero)))
    (λ fails. not_from_Decides (is_serving m n) (serving_decides m n one) (not-true (is_serving m n) fails))
    (or_cases (eqb n 0) (not (is_serving m n)) (each_of bound (λ n. eqb n 0 || not (is_serving m n)) test n below))

pub none_serves : (m : Meaning) (ceiling : ℕ) → is_unserved m (suc ceiling) ≡ true → NoneServes m ceiling
none_serves m ceiling test n one high = unserved m (suc ceiling) test n one (omega arith)

-- Where a task has no period, and none can be from the bound on, no number serves the book.
pub no_period_none_serves : (m : Meaning) (ceiling task bound : ℕ) → task < m.count → ((p : ℕ) → m.allowed task p ≡ true → p < bound) → every bound (λ p. not (m.allowed task p)) ≡ true → NoneServes m ceiling
no_period_none_serves m ceiling task bound below bounded test n one high serves =
    let p = (serves task below).0 in
    let allowed = (serves task below).1.0 in
    both_ways (m.allowed task p) (not-true (m.allowed task p) (each_of bound (λ p. not (m.allowed task p)) test p (bounded p allowed))) allowed

abbrev pub least_tests : Meaning → ℕ → ℕ → List Bool
least_tests m ceiling h = leb 1 h ∷ leb h ceiling ∷ is_serving m h ∷ is_unserved m h ∷ []

pub least_hyperperiod : (m : Meaning) (ceiling h : ℕ) → all_pass (least_tests m ceiling h) ≡ true → LeastHyperperiod m ceiling h
least_hyperperiod m ceiling h test =
    let each = passes (least_tests m ceiling h) test in
    let low : 1 ≤ h = leb-true 1 h (each 0 (omega arith)) in
    record {
      low = low;
      high = leb-true h ceiling (each 1 (omega arith));
      serves = (serving_decides m h low).0 (each 2 (omega arith));
      least = unserved m h (each 3 (omega arith));
    }

abbrev pub is_chosen : Meaning → ℕ → ℕ → ℕ → Bool
is_chosen m h task p = is_divisor m h task p && every (suc h) (λ other. not (is_divisor m h task other) || leb other p)

pub chosen_period : (m : Meaning) (h task p : ℕ) → 1 ≤ h → is_chosen m h task p ≡ true → Chosen m h task p
chosen_period m h task p some test =
    let two = and_parts (is_divisor m h task p) (every (suc h) (λ other. not (is_divisor m h task other) || leb other p)) test in
    record {
      divides = (divisor_decides m h task p).0 two.0;
      greatest = λ other divides.
          ⊎_elim {C = other ≤ p}
          (λ fails. absurd (not_from_Decides (is_divisor m h task other) (divisor_decides m h task other) (not-true (is_divisor m h task other) fails) divides))
          (λ low. leb-true other p low)
          (or_cases (not (is_divisor m h task other)) (leb other p)
          (each_of (suc h) (λ other. not (is_divisor m h task other) || leb other p) two.1 other (divisor_at_most h other some divides.1)));
    }
