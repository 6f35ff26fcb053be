use Rattle.std.proofs.Common.{◌≡◌, ℕ, zero, suc, cond, eqb, List, [], ◌∷◌, ◌++◌, length, sym, refl, ◌∙◌, subst, arith}
use Prim.Native.Nat.compare
use Rattle.std.proofs.lemmas.List.{length_push}
use Rattle.std.proofs.lemmas.Bool.Decides.{nat_tests}
use Rattle.books.specs.Meaning.{Meaning}
use Rattle.books.specs.Sets.{Adds, Empty}
use Rattle.sheets.specs.Entries.{Task}
use Rattle.sheets.specs.Sheets.{allows_at, meaning_of}

-- Meanings with the same count that allow the same are the same.
same_meaning : (m n : Meaning) → m.count ≡ n.count → ((task period : ℕ) → m.allowed task period ≡ n.allowed task period) → m ≡ n
same_meaning m n counts allows = λ i. record { count = counts i; allowed = λ task period. allows task period i }

-- The last task of a list allows what it does, and those before it what they did.
last_allows : (tasks : List Task) (last : Task) (task period : ℕ) → cond (eqb task (length tasks)) (last.allows period) (allows_at tasks task period) ≡ allows_at (tasks ++ last ∷ []) task period
last_allows [] last zero period = refl
last_allows [] last (suc task) period = grind (arith, nat_tests)
last_allows (first ∷ tasks) last zero period = grind (arith, nat_tests)
last_allows (first ∷ tasks) last (suc task) period = rw compare.suc-suc (last_allows tasks last task period)

-- A book with one task more means a list with that task at its end.
pub one_task_more : (m n : Meaning) (tasks : List Task) (last : Task) → m ≡ meaning_of tasks → Adds m n last.allows → n ≡ meaning_of (tasks ++ last ∷ [])
one_task_more m n tasks last known adds =
    let adds' : Adds (meaning_of tasks) n last.allows = subst (λ b. Adds b n last.allows) known adds in
    same_meaning n (meaning_of (tasks ++ last ∷ [])) (adds'.counted ∙ sym (length_push tasks last))
    (λ task period. adds'.tested task period ∙ last_allows tasks last task period)

-- A book of no tasks means the empty list.
pub no_tasks : (m : Meaning) → Empty m → m ≡ meaning_of []
no_tasks m none = same_meaning m (meaning_of []) none.counted none.barred
