use Rattle.std.proofs.Common.{◌≡◌, ℕ, ◌+◌, ◌*◌, ◌/◌, ◌%◌, ◌<◌, ◌≤◌, List, [], ◌∷◌, ◌++◌, length, get_or, take, sym, refl, ap, ◌∙◌, subst, mul-le-mul_right, div-add-mod', arith}
use Rattle.std.proofs.lemmas.List.Sums.{sum_by-append, sum_by-cons}
use Rattle.books.specs.Meaning.{Meaning}
use Rattle.planning.specs.declared.job.Job.{Job}
use Rattle.planning.specs.declared.job.Row.{Row}
use Rattle.planning.specs.Charges.{figures_at}
use Rattle.planning.specs.Placing.{Fills, Finishes, Frames, Gifts, Jobs}
use Rattle.planning.specs.Plans.{book_jobs}
use Rattle.planning.specs.Rows.{GreedyRows, RowsOf}
use Rattle.planning.specs.Sizes.{LargestSize, frames_of}
use Rattle.planning.specs.Windows.{job_at, placed}
use Rattle.planning.proofs.Equivalence.{placing_theorem}
use Rattle.planning.proofs.Greedy.{greedy_exists}
use Rattle.planning.proofs.ListedJobs.{jobs_in_order}
use Rattle.run.specs.declared.event.Event.{Event}
use Rattle.run.specs.declared.event.Event.TheVariants.{Slice, FrameEnd}
use Rattle.run.specs.Account.{Standing}
use Rattle.run.specs.Events.{Begins, end_of, frame_ends, run_events, slice_for, total}
use Rattle.run.specs.Kept.{ChosenFor, Delivers, InWindow, IsJob, window_in}
use Rattle.run.proofs.AfterFrameEnds.{AllFrom, from_at, from_first, from_rest, from_run}
use Rattle.run.proofs.FoundJobs.{job_found, one_position}
use Rattle.run.proofs.RowsInWindows.{rows_in_windows}
use Rattle.run.proofs.RunTotals.{other_slice, run_total}

-- frames of a size that divides the hyperperiod make it up
frames_make_up : (h f : ℕ) → h % f ≡ 0 → h ≡ h / f * f
frames_make_up h f divides = omega (arith, div-add-mod' h f)

module _ (m : Meaning) (k : Standing) (period : ℕ → ℕ) (r t j ended : ℕ) (some : 1 ≤ k.size) (past : r * k.hyperperiod + (window_in k period t j).end ≤ ended * k.size) where
  -- once the frame ends reach a job's end, no slice of it is in its window
  too_late : (e : ℕ) → ended ≤ e → (s a b : ℕ) → s ≡ r → a ≡ t → b ≡ j → (e + 1) * k.size ≤ s * k.hyperperiod + (window_in k period a b).end → ⊥
  too_late e later s a b same_repetition same_task same_job ends =
      let same : s * k.hyperperiod + (window_in k period a b).end ≡ r * k.hyperperiod + (window_in k period t j).end =
      ap (λ x. x * k.hyperperiod + (window_in k period a b).end) same_repetition
      ∙ ap (λ x. r * k.hyperperiod + (window_in k period x b).end) same_task
      ∙ ap (λ x. r * k.hyperperiod + (window_in k period t x).end) same_job
      in
      let upto : (e + 1) * k.size ≤ r * k.hyperperiod + (window_in k period t j).end = subst (λ x. (e + 1) * k.size ≤ x) same ends in
      let more : ended * k.size ≤ e * k.size = mul-le-mul_right {m = ended} {n = e} k.size later in
      let out : (e + 1) * k.size ≡ e * k.size + k.size = omega arith in
      no_room (ended * k.size) (e * k.size) (r * k.hyperperiod + (window_in k period t j).end) k.size some past more (subst (λ x. x ≤ r * k.hyperperiod + (window_in k period t j).end) out upto)
    where
      no_room : (a b c f : ℕ) → 1 ≤ f → c ≤ a → a ≤ b → b + f ≤ c → ⊥
      no_room a b c f one low high over = omega arith

  event_too_late : (e : ℕ) (x : Event) → ended ≤ e → InWindow m k period e x → slice_for r t j x ≡ 0
  event_too_late e (Slice s g a b n) later (_, _, ends) =
      other_slice r s a t b j n (λ same_repetition same_task same_job. too_late e later s a b same_repetition same_task same_job ends)
  event_too_late e (FrameEnd s g) later kept = refl

  -- so no later event counts for it
  nothing_later : (e : ℕ) (xs : List Event) → ended ≤ e → AllFrom (InWindow m k period) e xs → total r t j xs ≡ 0
  nothing_later e [] later each = refl
  nothing_later e (x ∷ xs) later each =
      omega (
        arith,
        sum_by-cons (slice_for r t j) x xs,
        event_too_late e x later each.0,
        nothing_later (e + end_of x) xs (omega arith) each.1,
      )

module _ (m : Meaning) (k : Standing) (period : ℕ → ℕ) (rows : List Row) (largest : LargestSize (placed (book_jobs m k.figures k.hyperperiod period)) k.hyperperiod k.size) (greedy : GreedyRows (book_jobs m k.figures k.hyperperiod period) (frames_of k.hyperperiod k.size) rows) where
  -- the gifts of the table's rows finish every job and fill the table
  gifts : (G : Gifts) × RowsOf (book_jobs m k.figures k.hyperperiod period) (frames_of k.hyperperiod k.size) G rows × Finishes (placed (book_jobs m k.figures k.hyperperiod period)) (frames_of k.hyperperiod k.size) G × Fills (placed (book_jobs m k.figures k.hyperperiod period)) (frames_of k.hyperperiod k.size) G
  gifts =
      let js : Jobs = placed (book_jobs m k.figures k.hyperperiod period) in
      let fr : Frames = frames_of k.hyperperiod k.size in
      let (G, is_greedy) = greedy_exists js fr in
      let finishes : Finishes js fr G = (placing_theorem.finishing js fr).0 largest.fillable G is_greedy in
      (G, greedy G is_greedy, finishes, placing_theorem.fills js fr G is_greedy finishes)

  -- each event of the run keeps to its window
  run_in_windows : (n : ℕ) → AllFrom (InWindow m k period) 0 (run_events rows (k.hyperperiod / k.size) n)
  run_in_windows n =
      let (G, table, _, fills) = gifts in
      let whole : k.hyperperiod ≡ k.hyperperiod / k.size * k.size = frames_make_up k.hyperperiod k.size largest.permitted.divides in
      from_run (InWindow m k period) (λ e r g. tt) rows (k.hyperperiod / k.size) (rows_in_windows m k period whole G fills rows table) n

  -- the slices of each job total its cost over the run
  run_total_cost : (n r t j : ℕ) → r < n → IsJob m k period t j → total r t j (run_events rows (k.hyperperiod / k.size) n) ≡ (figures_at k.figures t).cost
  run_total_cost n r t j low (task_low, few) =
      let (G, table, finishes, _) = gifts in
      let jobs : List Job = book_jobs m k.figures k.hyperperiod period in
      let own = job_found k.hyperperiod period (figures_at k.figures) m.count t j task_low few in
      let i : ℕ = own.position in
      let task_is : (job_at jobs i).task ≡ t = ap (λ (x : Job). x.task) own.is in
      let job_is : (job_at jobs i).job ≡ j = ap (λ (x : Job). x.job) own.is in
      let cost_is : (job_at jobs i).cost ≡ (figures_at k.figures t).cost = ap (λ (x : Job). x.cost) own.is in
      run_total jobs (frames_of k.hyperperiod k.size) G rows table i t j own.inside task_is job_is
      (λ a inside same_task same_job.
      one_position jobs (jobs_in_order k.hyperperiod period (figures_at k.figures) m.count) a i inside own.inside (same_task ∙ sym task_is) (same_job ∙ sym job_is))
      n r low
      ∙ (finishes i own.inside ∙ cost_is)

  module _ (n : ℕ) (events : List Event) (begins : Begins events (run_events rows (k.hyperperiod / k.size) n)) where
    all_in_windows : AllFrom (InWindow m k period) 0 (events ++ begins.0)
    all_in_windows = subst (AllFrom (InWindow m k period) 0) (sym begins.1) (run_in_windows n)

    -- each event keeps to its window
    pub event_in_window : (a : ℕ) (d : Event) → a < length events → InWindow m k period (frame_ends (take a events)) (get_or events a d)
    event_in_window a d inside =
        let same : 0 + frame_ends (take a events) ≡ frame_ends (take a events) = omega arith in
        subst (λ e. InWindow m k period e (get_or events a d)) same
        (from_at (InWindow m k period) 0 events a d inside (from_first (InWindow m k period) 0 events begins.0 all_in_windows))

    -- once the frame ends reach a job's end, its slices total its cost
    pub total_is_cost : (r t j : ℕ) → r < n → IsJob m k period t j → r * k.hyperperiod + (window_in k period t j).end ≤ frame_ends events * k.size → total r t j events ≡ (figures_at k.figures t).cost
    total_is_cost r t j low job past =
        let rest : AllFrom (InWindow m k period) (0 + frame_ends events) begins.0 = from_rest (InWindow m k period) 0 events begins.0 all_in_windows in
        let none : total r t j begins.0 ≡ 0 = nothing_later m k period r t j (frame_ends events) largest.permitted.some past (0 + frame_ends events) begins.0 (omega arith) rest in
        let parts : total r t j (events ++ begins.0) ≡ total r t j events + total r t j begins.0 = sum_by-append (slice_for r t j) events begins.0 in
        let all : total r t j (events ++ begins.0) ≡ (figures_at k.figures t).cost = ap (total r t j) begins.1 ∙ run_total_cost n r t j low job in
        let alone : total r t j events ≡ total r t j (events ++ begins.0) = omega (arith, parts, none) in
        alone ∙ all

-- events that are a beginning of the table repeated deliver every job in its window
pub delivers : (m : Meaning) (k : Standing) (period : ℕ → ℕ) (rows : List Row) (events : List Event) → 1 ≤ k.hyperperiod → ChosenFor m k period → LargestSize (placed (book_jobs m k.figures k.hyperperiod period)) k.hyperperiod k.size → GreedyRows (book_jobs m k.figures k.hyperperiod period) (frames_of k.hyperperiod k.size) rows → Begins events (run_events rows (k.hyperperiod / k.size) 1000000) → Delivers m k period events
delivers m k period rows events some chosen largest greedy begins =
    record {
      whole = total_is_cost m k period rows largest greedy 1000000 events begins;
      within = event_in_window m k period rows largest greedy 1000000 events begins;
      repeated = (rows, record { period = period; chosen = chosen; greedy = greedy }, begins);
    }
