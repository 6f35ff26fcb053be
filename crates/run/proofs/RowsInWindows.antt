use Rattle.std.proofs.Common.{◌≡◌, ℕ, ◌+◌, ◌*◌, ◌/◌, ◌<◌, ◌≤◌, leb, List, sym, ap, subst, arith}
use Rattle.std.proofs.lemmas.List.Elements.{All-map, All-weaker}
use Rattle.std.proofs.lemmas.Bool.{and_parts, leb-true}
use Rattle.std.specs.List.{All}
use Rattle.books.specs.Meaning.{Meaning}
use Rattle.planning.specs.declared.job.Job.{Job}
use Rattle.planning.specs.declared.job.Row.{Row}
use Rattle.planning.specs.Charges.{figures_at}
use Rattle.planning.specs.Placing.{Fills, Gifts}
use Rattle.planning.specs.Plans.{book_jobs}
use Rattle.planning.specs.Rows.{IsGift, Place, RowsOf, row_of}
use Rattle.planning.specs.Sizes.{frames_of}
use Rattle.planning.specs.Windows.{job_at, placed, window_of}
use Rattle.planning.proofs.ListedJobs.{job_stands}
use Rattle.run.specs.declared.event.Event.TheVariants.{Slice}
use Rattle.run.specs.Account.{Standing}
use Rattle.run.specs.Events.{slice_of}
use Rattle.run.specs.Kept.{InWindow}

module _ (m : Meaning) (k : Standing) (period : ℕ → ℕ) (frames : ℕ) (whole : k.hyperperiod ≡ frames * k.size) where
  -- a slice of a job in a frame that is open to it is in its window, in every repetition
  slice_in_window : (window : Job) (t j r g length : ℕ) → window ≡ window_of t (period t) (figures_at k.figures t) j → t < m.count → j < k.hyperperiod / period t → window.release ≤ g * k.size → (g + 1) * k.size ≤ window.end → InWindow m k period (r * frames + g) (Slice r g window.task window.job length)
  slice_in_window window t j r g length is low few released ends =
      let own : Job = window_of t (period t) (figures_at k.figures t) j in
      let later : r * k.hyperperiod ≡ r * (frames * k.size) = ap (λ x. r * x) whole in
      let from : own.release ≤ g * k.size = subst (λ (x : Job). x.release ≤ g * k.size) is released in
      let upto : (g + 1) * k.size ≤ own.end = subst (λ (x : Job). (g + 1) * k.size ≤ x.end) is ends in
      subst (λ (x : Job). InWindow m k period (r * frames + g) (Slice r g x.task x.job length)) (sym is) (
        (low, few),
        (let begins : r * k.hyperperiod + own.release ≤ (r * frames + g) * k.size = omega arith in begins),
        (let done : (r * frames + g + 1) * k.size ≤ r * k.hyperperiod + own.end = omega arith in done),
      )

module _ (m : Meaning) (k : Standing) (period : ℕ → ℕ) (whole : k.hyperperiod ≡ k.hyperperiod / k.size * k.size) (G : Gifts) (fills : Fills (placed (book_jobs m k.figures k.hyperperiod period)) (frames_of k.hyperperiod k.size) G) where
  row_in_window : (r : ℕ) (p : Place) → IsGift (placed (book_jobs m k.figures k.hyperperiod period)) (frames_of k.hyperperiod k.size) G p → InWindow m k period (r * (k.hyperperiod / k.size) + p.frame) (slice_of r (row_of (book_jobs m k.figures k.hyperperiod period) G p))
  row_in_window r p gift =
      let jobs : List Job = book_jobs m k.figures k.hyperperiod period in
      let g : ℕ = p.frame in
      let window : Job = job_at jobs p.position in
      let stands = job_stands k.hyperperiod period (figures_at k.figures) m.count p.position gift.1 in
      let fits = and_parts (leb window.release (g * k.size)) (leb ((g + 1) * k.size) window.end) (fills.within g p.position gift.0 gift.1 gift.2) in
      slice_in_window m k period (k.hyperperiod / k.size) whole window stands.task stands.job r g (G g p.position) stands.is stands.low stands.few
      (leb-true window.release (g * k.size) fits.0)
      (leb-true ((g + 1) * k.size) window.end fits.1)

  -- each row keeps to its job's window in every repetition
  pub rows_in_windows : (rows : List Row) → RowsOf (book_jobs m k.figures k.hyperperiod period) (frames_of k.hyperperiod k.size) G rows → (r : ℕ) → All (λ row. InWindow m k period (r * (k.hyperperiod / k.size) + row.frame) (slice_of r row)) rows
  rows_in_windows rows table r =
      let jobs : List Job = book_jobs m k.figures k.hyperperiod period in
      let Held : Row → Type 0 = λ row. InWindow m k period (r * (k.hyperperiod / k.size) + row.frame) (slice_of r row) in
      let Gift : Place → Type 0 = IsGift (placed jobs) (frames_of k.hyperperiod k.size) G in
      subst (All Held) (sym table.written)
      (All-map Held (row_of jobs G) table.places
      (All-weaker Gift (λ p. Held (row_of jobs G p)) (row_in_window r) table.places table.gifts))
