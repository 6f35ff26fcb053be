use Rattle.std.proofs.Common.{◌≡◌, ℕ, ◌≤◌, ◌&&◌, ltb, leb, List, [], ◌∷◌, ◌++◌, length, Some, None, ◌∙◌}
use Rattle.std.proofs.lemmas.Bool.{and_from, cond-true, le-leb}
use Rattle.books.specs.Questions.{Refused, ask, first_no, period_questions, rising_questions, list_questions}
use Rattle.books.proofs.FirstNo.{first_all_yes, first_some_no}

-- Of a list of one to eight numbers, the other questions decide.
module _ (ps : List ℕ) (count : ℕ) (some : 1 ≤ length ps) (few : length ps ≤ 8) where
  counted : first_no (list_questions ps count) ≡ first_no (period_questions 5 ps ++ (rising_questions 5 ps ++ ask 18 0 (ltb count 16) ∷ []))
  counted = cond-true (leb 1 (length ps) && leb (length ps) 8) _ _ (and_from _ _ (le-leb 1 (length ps) some) (le-leb (length ps) 8 few))

  -- A number that is no period is the first no.
  pub number_refused : (x : Refused) → first_no (period_questions 5 ps) ≡ Some x → first_no (list_questions ps count) ≡ Some x
  number_refused x h = counted ∙ first_some_no (period_questions 5 ps) _ x h

  -- Where all are periods, one not above the one before it is.
  pub rising_refused : (x : Refused) → first_no (period_questions 5 ps) ≡ None → first_no (rising_questions 5 ps) ≡ Some x → first_no (list_questions ps count) ≡ Some x
  rising_refused x g h = counted ∙ first_all_yes (period_questions 5 ps) _ g ∙ first_some_no (rising_questions 5 ps) _ x h

  -- Where they rise too, room for a task is all that is asked.
  pub room_asked : first_no (period_questions 5 ps) ≡ None → first_no (rising_questions 5 ps) ≡ None → first_no (list_questions ps count) ≡ first_no (ask 18 0 (ltb count 16) ∷ [])
  room_asked g h = counted ∙ first_all_yes (period_questions 5 ps) _ g ∙ first_all_yes (rising_questions 5 ps) _ h
