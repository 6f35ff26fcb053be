use Rattle.std.proofs.Common.{◌≡◌, ℕ, ◌<◌, Bool, true, List, length, slice_index_or, refl}
use Rattle.std.specs.List.{list_all}
use Rattle.std.proofs.lemmas.Bool.Decides.{Decides-below_and}
use Rattle.std.proofs.lemmas.List.Sums.{AllPass-from_list_all}
use Rattle.planning.specs.Placing.{every}

-- A test that holds of every number below n holds of each.
pub each_of : (n : ℕ) (test : ℕ → Bool) → every n test ≡ true → (k : ℕ) → k < n → test k ≡ true
each_of n test = (Decides-below_and test (λ k. test k ≡ true) (λ n. every n test) (λ k. (λ e. e, λ e. e)) refl (λ _. refl) n).0

-- Each of the tests passes.
abbrev pub all_pass : List Bool → Bool
all_pass = list_all (λ test. test)

-- Where all pass, so does each, by its place.
pub passes : (tests : List Bool) → all_pass tests ≡ true → (k : ℕ) → k < length tests → slice_index_or tests k true ≡ true
passes tests all k below = AllPass-from_list_all (λ test. test) tests all k true below
