use Rattle.std.proofs.Common.{◌≡◌, ℕ, zero, suc, ◌+◌, ◌<◌, true, ltb, List, [], ◌∷◌, length, get_or, None, add-one, arith}
use Rattle.std.proofs.lemmas.Bool.{ltb-true}
use Rattle.books.specs.Periods.{is_a_period}
use Rattle.books.specs.Questions.{ask, first_no, period_questions, above_questions, rising_questions}
use Rattle.books.proofs.FirstNo.{all_yes}

-- Each number of a list with no refusal is a period.
pub periods_passed : (field : ℕ) (ps : List ℕ) → first_no (period_questions field ps) ≡ None → (k : ℕ) → k < length ps → is_a_period (get_or ps k 0) ≡ true
periods_passed field [] h k below = absurd (omega arith)
periods_passed field (p ∷ ps) h zero below = (all_yes (ask 16 field (is_a_period p)) (period_questions (field + 1) ps) h).0
periods_passed field (p ∷ ps) h (suc k) below =
    periods_passed (field + 1) ps (all_yes (ask 16 field (is_a_period p)) (period_questions (field + 1) ps) h).1 k (omega arith)

-- Each that follows a given period is above the one before it.
pub above_passed : (field before : ℕ) (ps : List ℕ) → first_no (above_questions field before ps) ≡ None → (k : ℕ) → k < length ps → get_or (before ∷ ps) k 0 < get_or ps k 0
above_passed field before [] h k below = absurd (omega arith)
above_passed field before (p ∷ ps) h zero below =
    ltb-true before p (all_yes (ask 17 field (ltb before p)) (above_questions (field + 1) p ps) h).0
above_passed field before (p ∷ ps) h (suc k) below =
    above_passed (field + 1) p ps (all_yes (ask 17 field (ltb before p)) (above_questions (field + 1) p ps) h).1 k (omega arith)

-- Each of a list but the first is above the one before it.
pub rising_passed : (field : ℕ) (ps : List ℕ) → first_no (rising_questions field ps) ≡ None → (k : ℕ) → k + 1 < length ps → get_or ps k 0 < get_or ps (k + 1) 0
rising_passed field [] h k below = absurd (omega arith)
rising_passed field (p ∷ ps) h k below = rw add-one (above_passed (field + 1) p ps h k (omega arith))
