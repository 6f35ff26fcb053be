use Rattle.std.proofs.Common.{◌≡◌, ℕ, zero, suc, ◌/◌, ◌<◌, ◌≤◌, List, ◌++◌, Option, refl, ap, ◌∙◌, subst, arith}
use Rattle.books.specs.Meaning.{Meaning}
use Rattle.planning.specs.declared.job.Figures.{Figures}
use Rattle.planning.specs.declared.job.Job.{Job}
use Rattle.planning.specs.declared.job.Row.{Row}
use Rattle.planning.specs.Charges.{figures_at}
use Rattle.planning.specs.Hyperperiod.{Chosen}
use Rattle.planning.specs.Plans.{book_jobs}
use Rattle.planning.specs.Rows.{GreedyRows}
use Rattle.planning.specs.Sizes.{LargestSize, frames_of}
use Rattle.planning.specs.Windows.{jobs_of, jobs_of_task, placed}
use Rattle.run.specs.declared.event.Event.{Event}
use Rattle.run.specs.Account.{Standing}
use Rattle.run.specs.Events.{Begins, run_events}
use Rattle.run.specs.Kept.{ChosenFor, Delivers}
use Rattle.run.proofs.Delivery.{delivers}

-- a task has one chosen period
pub chosen_is_one : (m : Meaning) (h t p q : ℕ) → Chosen m h t p → Chosen m h t q → p ≡ q
chosen_is_one m h t p q a b = omega (arith, a.greatest q b.divides, b.greatest p a.divides)

same_listed : (figures : ℕ → Figures) (h : ℕ) (p q : ℕ → ℕ) (n : ℕ) → ((t : ℕ) → t < n → p t ≡ q t) → jobs_of h p figures n ≡ jobs_of h q figures n
same_listed figures h p q zero same = refl
same_listed figures h p q (suc n) same =
    ap (λ before. before ++ jobs_of_task h n (p n) (figures n)) (same_listed figures h p q n (λ t l. same t (omega arith)))
    ∙ ap (λ period. jobs_of h q figures n ++ jobs_of_task h n period (figures n)) (same n (omega arith))

-- equal periods of the tasks, equal jobs
pub same_jobs : (m : Meaning) (figures : List (Option Figures)) (h : ℕ) (p q : ℕ → ℕ) → ((t : ℕ) → t < m.count → p t ≡ q t) → book_jobs m figures h p ≡ book_jobs m figures h q
same_jobs m figures h p q same = same_listed (figures_at figures) h p q m.count same

-- the events deliver by any chosen periods where the table is known by some
pub delivers_any : (m : Meaning) (k : Standing) (kept period : ℕ → ℕ) (rows : List Row) (events : List Event) → 1 ≤ k.hyperperiod → ChosenFor m k kept → ChosenFor m k period → LargestSize (placed (book_jobs m k.figures k.hyperperiod kept)) k.hyperperiod k.size → GreedyRows (book_jobs m k.figures k.hyperperiod kept) (frames_of k.hyperperiod k.size) rows → Begins events (run_events rows (k.hyperperiod / k.size) 1000000) → Delivers m k period events
delivers_any m k kept period rows events some chosen also largest greedy begins =
    let same : book_jobs m k.figures k.hyperperiod kept ≡ book_jobs m k.figures k.hyperperiod period =
    same_jobs m k.figures k.hyperperiod kept period (λ t low. chosen_is_one m k.hyperperiod t (kept t) (period t) (chosen t low) (also t low))
    in
    delivers m k period rows events some also
    (subst (λ (jobs : List Job). LargestSize (placed jobs) k.hyperperiod k.size) same largest)
    (subst (λ (jobs : List Job). GreedyRows jobs (frames_of k.hyperperiod k.size) rows) same greedy)
    begins
