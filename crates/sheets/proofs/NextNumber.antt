use Rattle.std.proofs.Common.{◌≡◌, ℕ, ◌+◌, ◌-◌, ◌<◌, true, false, cond, List, [], ◌∷◌, ◌++◌, map, length, get_or, take, drop, Some, sym, ap, ◌∙◌, arith}
use Rattle.std.proofs.lemmas.List.{at_drop_all, at_drop_more, get_or-drop, length_push, map_more, take_all}
use Rattle.std.proofs.lemmas.Bool.{cond-true, cond-false}
use Rattle.books.specs.Questions.{Question, first_no, list_questions, refused_by}
use Rattle.sheets.specs.Entries.{ask_number, list_entry, number_questions, periods_in}
use Rattle.sheets.specs.Lines.{field_at}
use Rattle.sheets.specs.Numerals.{is_number, value}
use Rattle.sheets.specs.Reads.{field_refused}
use Rattle.sheets.specs.Sheets.{on_line}
use Rattle.sheets.specs.declared.fault.FieldFault.TheVariants.{Unreadable}

module _ (fields : List (List ℕ)) (k : ℕ) where
  -- The field of the period that has so many before it.
  pub field_of_period : get_or (drop 4 fields) k [] ≡ field_at fields (5 + k)
  field_of_period = let place : 4 + k ≡ 5 + k - 1 = omega arith in rw (get_or-drop, place)

  -- The question to that field, and then those to the fields behind it.
  module _ (below : k < length (drop 4 fields)) (rest : List Question) where
    numbers_from : first_no (number_questions (5 + k) (drop k (drop 4 fields)) ++ rest) ≡ cond (is_number (field_at fields (5 + k))) (first_no (number_questions (5 + (k + 1)) (drop (k + 1) (drop 4 fields)) ++ rest)) (Some (refused_by (ask_number fields (5 + k))))
    numbers_from =
        let next : 5 + k + 1 ≡ 5 + (k + 1) = omega arith in
        at_drop_more (λ xs. first_no (number_questions (5 + k) xs ++ rest)) (drop 4 fields) k [] below
        ∙ ap (λ number. cond (is_number (get_or (drop 4 fields) k [])) (first_no (number_questions number (drop (k + 1) (drop 4 fields)) ++ rest)) (Some (refused_by (ask_number fields (5 + k))))) next
        ∙ ap (λ field. cond (is_number field) (first_no (number_questions (5 + (k + 1)) (drop (k + 1) (drop 4 fields)) ++ rest)) (Some (refused_by (ask_number fields (5 + k))))) field_of_period

    -- A number is passed over, and what is none is the first no.
    pub number_passed : is_number (field_at fields (5 + k)) ≡ true → first_no (number_questions (5 + k) (drop k (drop 4 fields)) ++ rest) ≡ first_no (number_questions (5 + (k + 1)) (drop (k + 1) (drop 4 fields)) ++ rest)
    number_passed h = numbers_from ∙ cond-true _ _ _ h

    pub number_refused : is_number (field_at fields (5 + k)) ≡ false → first_no (number_questions (5 + k) (drop k (drop 4 fields)) ++ rest) ≡ Some (refused_by (ask_number fields (5 + k)))
    number_refused h = numbers_from ∙ cond-false _ _ _ h

-- The first periods were read: they are numbers, with their values, and the questions to the fields behind them decide.
pub record PeriodsSoFar (fields : List (List ℕ)) (periods : List ℕ) : Type 0 where
  pub read : periods ≡ map value (take (length periods) (drop 4 fields))
  pub passed : (rest : List Question) → first_no (number_questions 5 (drop 4 fields) ++ rest) ≡ first_no (number_questions (5 + length periods) (drop (length periods) (drop 4 fields)) ++ rest)

module _ (fields : List (List ℕ)) (periods : List ℕ) (so : PeriodsSoFar fields periods) where
  -- One period more.
  pub period_more : (number : ℕ) → 5 + length periods ≡ number → length periods < length (drop 4 fields) → is_number (field_at fields number) ≡ true → PeriodsSoFar fields (periods ++ value (field_at fields number) ∷ [])
  period_more number at below known =
      let k = length periods in
      let count = length_push periods (value (field_at fields number)) in
      let here : is_number (field_at fields (5 + k)) ≡ true = rw at known in
      record {
        read =
            ap (λ front. front ++ value (field_at fields number) ∷ []) so.read
            ∙ ap (λ n. map value (take k (drop 4 fields)) ++ value (field_at fields n) ∷ []) (sym at)
            ∙ ap (λ field. map value (take k (drop 4 fields)) ++ value field ∷ []) (sym (field_of_period fields k))
            ∙ sym (map_more value (drop 4 fields) k [] below)
            ∙ ap (λ n. map value (take n (drop 4 fields))) (sym count);
        passed = λ rest.
            so.passed rest ∙ number_passed fields k below rest here
            ∙ ap (λ n. first_no (number_questions (5 + n) (drop n (drop 4 fields)) ++ rest)) (sym count);
      }

  -- What is no number is the first no.
  pub period_refused : (number line : ℕ) → 5 + length periods ≡ number → length periods < length (drop 4 fields) → is_number (field_at fields number) ≡ false
      → (rest : List Question) → on_line line (first_no (number_questions 5 (drop 4 fields) ++ rest)) ≡ Some (field_refused (Unreadable line number))
  period_refused number line at below other rest =
      let here : is_number (field_at fields (5 + length periods)) ≡ false = rw at other in
      ap (on_line line) (so.passed rest ∙ number_refused fields (length periods) below rest here) ∙ ap (λ n. Some (field_refused (Unreadable line n))) at

  -- After the last field, all of them are numbers.
  pub periods_read : length periods ≡ length (drop 4 fields) → (periods ≡ periods_in fields) × ((rest : List Question) → first_no (number_questions 5 (drop 4 fields) ++ rest) ≡ first_no rest)
  periods_read all = (
    so.read ∙ ap (map value) (take_all (length periods) (drop 4 fields) (omega arith)),
    λ rest. so.passed rest ∙ at_drop_all (λ xs. first_no (number_questions (5 + length periods) xs ++ rest)) (drop 4 fields) (length periods) (omega arith),
  )

-- Where cost and deadline are numbers, the questions to the periods decide.
module _ (fields : List (List ℕ)) (count : ℕ) (cost : is_number (field_at fields 3) ≡ true) (deadline : is_number (field_at fields 4) ≡ true) where
  pub figures_passed : first_no (list_entry fields count) ≡ first_no (number_questions 5 (drop 4 fields) ++ list_questions (periods_in fields) count)
  figures_passed = cond-true _ _ _ cost ∙ cond-true _ _ _ deadline

  -- Where the periods are numbers too, what the book asks of them does.
  pub periods_passed : (ps : List ℕ) → ps ≡ periods_in fields → ((rest : List Question) → first_no (number_questions 5 (drop 4 fields) ++ rest) ≡ first_no rest) → first_no (list_entry fields count) ≡ first_no (list_questions ps count)
  periods_passed ps same passed =
      figures_passed ∙ passed (list_questions (periods_in fields) count) ∙ sym (ap (λ list. first_no (list_questions list count)) same)
