use Rattle.std.specs.Prelude.{◌≡◌, ℕ, ◌+◌, ◌<◌, ◌≤◌, min, Bool, true, false, cond, List, [], ◌++◌, map, length, Some, None, Ok, Err, vec_items, Option, Result, ◌==◌}
use Rattle.books.specs.Meaning.{Meaning}
use Rattle.planning.specs.declared.job.Row.{Row}
use Rattle.planning.specs.declared.plan.Plan.{Plan}
use Rattle.planning.specs.Plans.{Planned as PlanMade, row_in}
use Rattle.run.specs.declared.call.Answer.{Answer}
use Rattle.run.specs.declared.call.Answer.TheVariants.{Charged, Planned, Rewound, Came, PeriodIs, RowIs, Refused}
use Rattle.run.specs.declared.call.Call.{Call}
use Rattle.run.specs.declared.event.Event.{Event}
use Rattle.run.specs.declared.planner.Planner.{Planner}
use Rattle.run.specs.declared.planner.calls.Granted.{Granted}
use Rattle.run.specs.declared.planner.place.Place.{Place}
use Rattle.run.specs.declared.refusal.Refusal.{Refusal}
use Rattle.run.specs.Account.{Account, Standing, hear, is_granted}
use Rattle.run.specs.Events.{frame_events, joined, rows_in, run_events, slice_of}
use Rattle.run.specs.Kept.{Kept}
use Rattle.run.specs.Right.{Right}

-- The answers of the calls, as they are told to an account.
abbrev pub charged : Result (Unit {0}) Refusal → Answer
charged (Ok done) = Charged
charged (Err refusal) = Refused refusal

abbrev pub planned : Result Granted Refusal → Answer
planned (Ok granted) = Planned granted
planned (Err refusal) = Refused refusal

abbrev pub rewound : Result (Unit {0}) Refusal → Answer
rewound (Ok done) = Rewound
rewound (Err refusal) = Refused refusal

abbrev pub came : Result Event Refusal → Answer
came (Ok event) = Came event
came (Err refusal) = Refused refusal

abbrev pub period_read : Option ℕ → Answer
period_read found = PeriodIs found

abbrev pub row_read : Option Row → Answer
row_read found = RowIs found

-- The row at a place of the table, if it is one of the frame.
abbrev pub of_frame : ℕ → Option Row → Option Row
of_frame frame None = None
of_frame frame (Some row) = cond (row.frame == frame) (Some row) None

abbrev pub upcoming_in : List Row → ℕ → ℕ → Option Row
upcoming_in rows frame index = of_frame frame (row_in rows index)

-- A run is at this place after these events: in its repetition and frame, of whose rows some are done and some are
-- left, with the row of that index of the table next.
pub record AtPlace (rows : List Row) (frames : ℕ) (place : Place) (events : List Event) : Type 0 where
  pub done : List Row
  pub left : List Row
  pub counted : place.repetition ≤ 1000000
  pub ended : place.repetition ≡ 1000000 → (place.frame ≡ 0) × (done ≡ [])
  pub inside : place.frame < frames
  pub split : rows_in rows place.frame ≡ done ++ left
  pub placed : place.row ≡ length (joined place.frame (rows_in rows)) + length done
  pub so_far : events ≡ run_events rows frames place.repetition ++ (joined place.frame (frame_events rows place.repetition) ++ map (slice_of place.repetition) done)

-- A frame of a run ended, and with the last of the frames the repetition.
pub record Ends (frames : ℕ) (p q : Place) : Type 0 where
  pub on : min (p.frame + 1) 4294967295 < frames → q ≡ record { repetition = p.repetition; frame = min (p.frame + 1) 4294967295; row = p.row }
  pub over : frames ≤ min (p.frame + 1) 4294967295 → q ≡ record { repetition = p.repetition + 1; frame = 0; row = 0 }

-- The plan is the one that is kept: due by the figures kept, with the hyperperiod and the size kept.
abbrev pub KeptPlan : Meaning → Standing → Plan → Type 0
KeptPlan m k plan =
    (k.hyperperiod ≡ plan.hyperperiod) × (k.size ≡ plan.frame_size) × ((ceiling : ℕ) × PlanMade m k.figures ceiling plan)

-- The plan is the one that the account keeps, if it keeps one, and the run is where the events have come to.
abbrev pub StandsAs : Meaning → Plan → Option Place → Option Standing → List Event → Type 0
StandsAs m plan place None events = place ≡ None
StandsAs m plan None (Some k) events = ⊥
StandsAs m plan (Some place) (Some k) events = KeptPlan m k plan × AtPlace (vec_items plan.rows) plan.frames place events

-- The planner agrees with the account.
pub record Agrees {B : Type 0} (meaning : B → Meaning) (p : Planner B) (a : Account) : Type 0 where
  pub figures : p.figures ≡ a.figures
  pub standing : StandsAs (meaning p.book) p.plan p.place a.plan a.events

-- The plan read where an account keeps this one: the plan that is due by the figures kept, with the hyperperiod
-- and the size kept; none where the account keeps none.
abbrev pub StandingRead : Meaning → Option Standing → Option Plan → Type 0
StandingRead m None found = found ≡ None
StandingRead m (Some k) None = ⊥
StandingRead m (Some k) (Some plan) = KeptPlan m k plan

-- A planner is as it was, but for the memory that it works in.
pub record Unaltered {B : Type 0} (p q : Planner B) : Type 0 where
  pub book : q.book ≡ p.book
  pub figures : q.figures ≡ p.figures
  pub plan : q.plan ≡ p.plan
  pub place : q.place ≡ p.place

-- A planner after a refusal is unaltered; after a granted call, this says nothing.
abbrev pub AlteredIf : {B : Type 0} → Bool → Planner B → Planner B → Type 0
AlteredIf true p q = Unit {0}
AlteredIf false p q = Unaltered p q

-- What every call promises, of every account that agrees with the planner before it: the answer is right, what is
-- kept holds of the account after it, the planner then agrees with that account, its book is the same, and a
-- refused call alters nothing.
pub record Carries {B : Type 0} (meaning : B → Meaning) (p q : Planner B) (call : Call) (answer : Answer) : Type 0 where
  pub same : q.book ≡ p.book
  pub right : (a : Account) → Agrees meaning p a → Right (meaning p.book) a call answer
  pub kept : (a : Account) → Agrees meaning p a → Kept (meaning p.book) (hear a call answer)
  pub agrees : (a : Account) → Agrees meaning p a → Agrees meaning q (hear a call answer)
  pub unaltered : AlteredIf (is_granted answer) p q
