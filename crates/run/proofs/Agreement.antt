use Rattle.std.proofs.Common.{◌≡◌, ℕ, ◌+◌, ◌*◌, ◌/◌, ◌<◌, ◌≤◌, min, Bool, true, false, cond, ltb, List, [], ◌∷◌, ◌++◌, length, is_some, Some, None, Ok, Err, vec_items, Option, Result, sym, refl, ◌∙◌, subst, ⊎_elim, arith}
use Rattle.std.proofs.lemmas.Bool.{cases_lt, cond_both, ltb-false, ltb-true}
use Rattle.std.specs.Result.{MatchResult}
use Rattle.std.proofs.lemmas.Option.{none-some}
use Rattle.books.specs.Meaning.{Meaning}
use Rattle.planning.specs.declared.job.Figures.{Figures}
use Rattle.planning.specs.declared.job.Row.{Row}
use Rattle.planning.specs.declared.plan.Plan.{Plan}
use Rattle.planning.specs.Plans.{Planned as PlanMade, period_in, book_jobs, row_in, tasks_in}
use Rattle.planning.specs.Hyperperiod.{Chosen}
use Rattle.planning.specs.Sizes.{frames_of}
use Rattle.run.specs.declared.event.Event.{Event}
use Rattle.run.specs.declared.planner.Planner.{Planner}
use Rattle.run.specs.declared.planner.place.Place.{Place}
use Rattle.run.specs.Account.{Account, Standing, hear, is_granted}
use Rattle.run.specs.Agrees.{Agrees, AlteredIf, AtPlace, Carries, Ends, KeptPlan, StandingRead, StandsAs, Unaltered, upcoming_in}
use Rattle.run.specs.Events.{Begins, frame_ends, joined, rows_in, run_events, slice_of}
use Rattle.run.specs.Kept.{Kept, KeptBy}
use Rattle.run.specs.Right.{NextRight, PeriodFound, PlanRight, Right, RowRight, TableOf}
use Rattle.run.specs.declared.call.Answer.{Answer}
use Rattle.run.specs.declared.call.Call.{Call}
use Rattle.run.specs.declared.call.Answer.TheVariants.{Came, Refused, Rewound, RowIs}
use Rattle.run.specs.declared.event.Event.TheVariants.{FrameEnd}
use Rattle.run.specs.declared.refusal.Refusal.{Refusal}
use Rattle.run.specs.declared.refusal.Refusal.TheVariants.{Ended, NoPlan}
use Rattle.planning.proofs.FrameSizes.{pair_some}
use Rattle.run.proofs.SamePeriods.{delivers_any}
use Rattle.run.proofs.Places.{place_begins, place_beginning, place_ended, place_frame_end, place_not_ended, place_slice}
use Rattle.run.proofs.TableOrder.{rows_by_frame}

-- a call's answer, told of its result
pub answered : {B T : Type 0} (meaning : B → Meaning) (p q : Planner B) (call : Call) (tell : Result T Refusal → Answer) (result : Result T Refusal) (answer : Answer) {P : T → Type 0} {Q : Refusal → Type 0}
    → Carries meaning p q call (tell result) → MatchResult result P Q → ((x : T) → P x → answer ≡ tell (Ok x)) → ((e : Refusal) → Q e → answer ≡ tell (Err e)) → Carries meaning p q call answer
answered meaning p q call tell (Ok x) answer carried is granted refused = rw (granted x is) carried
answered meaning p q call tell (Err e) answer carried is granted refused = rw (refused e is) carried

-- where a run begins
abbrev pub start : Place
start = record { repetition = 0; frame = 0; row = 0 }

-- what is kept of a plan
abbrev pub kept_of : List (Option Figures) → Plan → Standing
kept_of figures plan = record { hyperperiod = plan.hyperperiod; size = plan.frame_size; figures = figures }

-- an account keeps just that of a planner's plan
pub keeps_plan : (k : Standing) (plan : Plan) → k.hyperperiod ≡ plan.hyperperiod → k.size ≡ plan.frame_size → k ≡ kept_of k.figures plan
keeps_plan k plan h s = rw (sym h, sym s) refl

module _ (m : Meaning) (figures : List (Option Figures)) (ceiling : ℕ) (plan : Plan) (made : PlanMade m figures ceiling plan) where
  -- the plan's rows are those of the table
  pub plan_table : TableOf m (kept_of figures plan) (vec_items plan.rows)
  plan_table = record { period = period_in plan; chosen = made.prepared.chosen; greedy = made.rows }

  pub plan_rows_by_frame : vec_items plan.rows ≡ joined plan.frames (rows_in (vec_items plan.rows))
  plan_rows_by_frame =
      subst (λ n. vec_items plan.rows ≡ joined n (rows_in (vec_items plan.rows))) (sym made.frames)
      (rows_by_frame (book_jobs m figures plan.hyperperiod (period_in plan)) (frames_of plan.hyperperiod plan.frame_size) (vec_items plan.rows) made.rows)

  -- events that have come to a place of the plan keep to it
  pub place_kept : (at : Place) (events : List Event) → AtPlace (vec_items plan.rows) plan.frames at events → KeptBy m (Some (kept_of figures plan)) events
  place_kept at events at_place period chosen =
      delivers_any m (kept_of figures plan) (period_in plan) period (vec_items plan.rows) events made.prepared.least.low made.prepared.chosen chosen made.size made.rows
      (subst (λ n. Begins events (run_events (vec_items plan.rows) n 1000000)) made.frames (place_beginning (vec_items plan.rows) plan.frames at events at_place))

module _ (m : Meaning) (plan : Plan) where
  stands_kept : (place : Option Place) (kept : Option Standing) (events : List Event) → StandsAs m plan place kept events → KeptBy m kept events
  stands_kept place None events none = tt
  stands_kept None (Some k) events never = absurd never
  stands_kept (Some at) (Some k) events ((h, s, (ceiling, made)), at_place) =
      subst (λ x. KeptBy m (Some x) events) (sym (keeps_plan k plan h s)) (place_kept m k.figures ceiling plan made at events at_place)

  -- the period that is read is the chosen one
  pub period_found : (kept : Option Standing) (task : ℕ) → StandingRead m kept (Some plan) → PeriodFound m kept task (cond (ltb task (tasks_in plan)) (Some (period_in plan task)) None)
  period_found None task never = absurd (none-some plan (sym never))
  period_found (Some k) task (h, s, (ceiling, made)) =
      cond_both (ltb task (tasks_in plan)) (Some (period_in plan task)) None (PeriodFound m (Some k) task)
      (λ yes.
      let below : task < m.count = omega (arith, ltb-true task (tasks_in plan) yes, made.tasks) in
      (below, subst (λ n. Chosen m n task (period_in plan task)) (sym h) (made.prepared.chosen task below)))
      (λ beyond. omega (arith, ltb-false task (tasks_in plan) beyond, made.tasks))

  -- the row that is read is one of the table's
  pub row_found : (kept : Option Standing) (index : ℕ) → StandingRead m kept (Some plan) → RowRight m kept index (RowIs (row_in (vec_items plan.rows) index))
  row_found None index never = absurd (none-some plan (sym never))
  row_found (Some k) index (h, s, (ceiling, made)) =
      (vec_items plan.rows, subst (λ x. TableOf m x (vec_items plan.rows)) (sym (keeps_plan k plan h s)) (plan_table m k.figures ceiling plan made), refl)

  module _ (at : Place) where
    -- a run that goes back begins again
    pub goes_back : (kept : Option Standing) (events : List Event) → StandsAs m plan (Some at) kept events → (Rewound ≡ cond (is_some kept) Rewound (Refused NoPlan)) × StandsAs m plan (Some start) kept []
    goes_back None events never = absurd (none-some at (sym never))
    goes_back (Some k) events (is_kept, at_place) =
        (refl, (is_kept, place_begins (vec_items plan.rows) plan.frames (omega (arith, at_place.inside))))

    -- once all repetitions have ended, refusal 11 is due
    pub all_ended : (kept : Option Standing) (events : List Event) → 1000000 ≤ at.repetition → StandsAs m plan (Some at) kept events → NextRight m kept events (Refused Ended)
    all_ended None events over never = absurd (none-some at (sym never))
    all_ended (Some k) events over ((h, s, (ceiling, made)), at_place) = (
      refl,
      subst (λ x. frame_ends events ≡ 1000000 * (x.hyperperiod / x.size)) (sym (keeps_plan k plan h s))
          (subst (λ n. frame_ends events ≡ 1000000 * n) made.frames (place_ended (vec_items plan.rows) plan.frames at events at_place over)),
    )

    module _ (below : at.repetition < 1000000) where
      -- an event that brings the run to its next place is the table's next one
      comes_next : (k : Standing) (events : List Event) (event : Event) (to : Place) → KeptPlan m k plan → AtPlace (vec_items plan.rows) plan.frames at events → AtPlace (vec_items plan.rows) plan.frames to (events ++ event ∷ []) → NextRight m (Some k) events (Came event) × StandsAs m plan (Some to) (Some k) (events ++ event ∷ [])
      comes_next k events event to (h, s, (ceiling, made)) before after =
          let rows : List Row = vec_items plan.rows in (
            subst (λ x. NextRight m (Some x) events (Came event)) (sym (keeps_plan k plan h s)) (
              subst (λ n. frame_ends events < 1000000 * n) made.frames (place_not_ended rows plan.frames at events before below),
              (rows, plan_table m k.figures ceiling plan made, subst (λ n. Begins (events ++ event ∷ []) (run_events rows n 1000000)) made.frames (place_beginning rows plan.frames to (events ++ event ∷ []) after)),
            ),
            ((h, s, (ceiling, made)), after),
          )

      -- a slice is the table's next event
      pub slice_next : (x : Row) → upcoming_in (vec_items plan.rows) at.frame at.row ≡ Some x → (kept : Option Standing) (events : List Event) → StandsAs m plan (Some at) kept events → NextRight m kept events (Came (slice_of at.repetition x)) × StandsAs m plan (Some (record { repetition = at.repetition; frame = at.frame; row = at.row + 1 })) kept (events ++ slice_of at.repetition x ∷ [])
      slice_next x next None events never = absurd (none-some at (sym never))
      slice_next x next (Some k) events ((h, s, (ceiling, made)), at_place) =
          comes_next k events (slice_of at.repetition x) (record { repetition = at.repetition; frame = at.frame; row = at.row + 1 }) (h, s, (ceiling, made)) at_place
          (place_slice (vec_items plan.rows) plan.frames (plan_rows_by_frame m k.figures ceiling plan made) at events at_place below x next)

      -- and so is a frame's end
      pub end_next : (to : Place) → Ends plan.frames at to → upcoming_in (vec_items plan.rows) at.frame at.row ≡ None → (kept : Option Standing) (events : List Event) → StandsAs m plan (Some at) kept events → NextRight m kept events (Came (FrameEnd at.repetition at.frame)) × StandsAs m plan (Some to) kept (events ++ FrameEnd at.repetition at.frame ∷ [])
      end_next to ends none None events never = absurd (none-some at (sym never))
      end_next to ends none (Some k) events ((h, s, (ceiling, made)), at_place) =
          let rows : List Row = vec_items plan.rows in
          let step = place_frame_end rows plan.frames (plan_rows_by_frame m k.figures ceiling plan made) at events at_place below none in
          let few : plan.frames ≤ 256 = subst (λ n. n ≤ 256) (sym made.frames) made.size.permitted.few in
          let At : Place → Type 0 = λ x. AtPlace rows plan.frames x (events ++ FrameEnd at.repetition at.frame ∷ []) in
          let following : min (at.frame + 1) 4294967295 ≡ at.frame + 1 = omega (arith, at_place.inside) in
          comes_next k events (FrameEnd at.repetition at.frame) to (h, s, (ceiling, made)) at_place
          (⊎_elim {C = At to}
          (λ (more : at.frame + 1 < plan.frames).
          subst At (sym (ends.on (omega arith))) (subst (λ n. At (record { repetition = at.repetition; frame = n; row = at.row })) (sym following) (step.0 more)))
          (λ (last : plan.frames ≤ at.frame + 1). subst At (sym (ends.over (omega arith))) (step.1 (omega (arith, at_place.inside))))
          (cases_lt (at.frame + 1) plan.frames))

-- whatever account a planner agrees with, what is kept holds of it
pub agrees_kept : {B : Type 0} (meaning : B → Meaning) (p : Planner B) (a : Account) → Agrees meaning p a → Kept (meaning p.book) a
agrees_kept meaning p a agrees =
    stands_kept (meaning p.book) p.plan p.place a.plan a.events agrees.standing

-- a call carries an account on where its answer is right and the planner then agrees
pub carries : {B : Type 0} (meaning : B → Meaning) (p q : Planner B) (call : Call) (answer : Answer) → q.book ≡ p.book → ((a : Account) → Agrees meaning p a → Right (meaning p.book) a call answer) → ((a : Account) → Agrees meaning p a → Agrees meaning q (hear a call answer)) → AlteredIf (is_granted answer) p q → Carries meaning p q call answer
carries meaning p q call answer same right agrees unaltered =
    record {
      same = same;
      right = right;
      kept = λ a h. subst (λ b. Kept (meaning b) (hear a call answer)) same (agrees_kept meaning q (hear a call answer) (agrees a h));
      agrees = agrees;
      unaltered = unaltered;
    }

-- a planner that nothing touched is unaltered
pub untouched : {B : Type 0} (p : Planner B) → Unaltered p p
untouched p = record { book = refl; figures = refl; plan = refl; place = refl }

-- and so it is by any answer
untouched_if : {B : Type 0} (granted : Bool) (p : Planner B) → AlteredIf granted p p
untouched_if true p = tt
untouched_if false p = untouched p

-- a call that leaves the planner and notes nothing is carried on where its answer is right
pub carries_same : {B : Type 0} (meaning : B → Meaning) (p : Planner B) (call : Call) (answer : Answer) → ((a : Account) → hear a call answer ≡ a) → ((a : Account) → Agrees meaning p a → Right (meaning p.book) a call answer) → Carries meaning p p call answer
carries_same meaning p call answer same right =
    carries meaning p p call answer refl right (λ a h. subst (Agrees meaning p) (sym (same a)) h) (untouched_if (is_granted answer) p)

module _ (m : Meaning) (figures : List (Option Figures)) (ceiling : ℕ) (plan : Plan) (made : PlanMade m figures ceiling plan) where
  -- a plan that was made is answered rightly
  pub plan_right : PlanRight m figures ceiling plan.hyperperiod plan.frame_size plan.jobs (length (vec_items plan.rows))
  plan_right =
      record {
        period = period_in plan;
        prepared = made.prepared;
        work = made.work;
        counted = made.jobs;
        few = made.few;
        largest = made.size;
        table = vec_items plan.rows;
        greedy = made.rows;
        written = refl;
      }

  -- and its run begins at frame 0 of repetition 0
  pub plan_begins : AtPlace (vec_items plan.rows) plan.frames start []
  plan_begins =
      place_begins (vec_items plan.rows) plan.frames
      (subst (λ n. 1 ≤ n) (sym made.frames) (pair_some plan.hyperperiod plan.frame_size made.prepared.least.low made.size.permitted.some made.size.permitted.divides))

module _ {B : Type 0} (meaning : B → Meaning) (p : Planner B) (at : Place) (is : p.place ≡ Some at) where
  -- the plan stands where the run is at a place
  pub stands_at : (a : Account) → Agrees meaning p a → StandsAs (meaning p.book) p.plan (Some at) a.plan a.events
  stands_at a agrees = subst (λ x. StandsAs (meaning p.book) p.plan x a.plan a.events) is agrees.standing

  -- a call that only brings the run to another place is carried out rightly where its answer is right
  pub moves_on : (to : Place) (call : Call) (answer : Answer) → ((a : Account) → (hear a call answer).figures ≡ a.figures)
      → ((a : Account) → StandsAs (meaning p.book) p.plan (Some at) a.plan a.events → Right (meaning p.book) a call answer × StandsAs (meaning p.book) p.plan (Some to) (hear a call answer).plan (hear a call answer).events)
      → AlteredIf (is_granted answer) p (record { book = p.book; figures = p.figures; plan = p.plan; place = Some to; space = p.space })
      → Carries meaning p (record { book = p.book; figures = p.figures; plan = p.plan; place = Some to; space = p.space }) call answer
  moves_on to call answer same step unaltered =
      carries meaning p _ call answer refl (λ a h. (step a (stands_at a h)).0)
      (λ a h. record { figures = h.figures ∙ sym (same a); standing = (step a (stands_at a h)).1 }) unaltered
