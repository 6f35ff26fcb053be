use Rattle.std.specs.Prelude.{ℕ, Bool, true, false, cond, List, [], ◌∷◌, ◌++◌, replicate, Some, None, Option, slice_set}
use Rattle.planning.specs.declared.job.Figures.{Figures}
use Rattle.run.specs.declared.call.Answer.{Answer}
use Rattle.run.specs.declared.call.Answer.TheVariants.{Charged, Planned, Rewound, Came, PeriodIs, RowIs, Refused}
use Rattle.run.specs.declared.call.Call.{Call}
use Rattle.run.specs.declared.call.Call.TheVariants.{Charge, Plan, Rewind, Next, Period, RowAt}
use Rattle.run.specs.declared.event.Event.{Event}

-- What is kept of a granted plan: its hyperperiod, its frame size and the figures noted at that time.
pub record Standing : Type 0 where
  pub hyperperiod : ℕ
  pub size : ℕ
  pub figures : List (Option Figures)

-- A plain account of the calls on a planner and their answers: the figures noted for each of the 16 tasks,
-- the plan that stands, if one does, and the events since the plan or the last rewind.
pub record Account : Type 0 where
  pub figures : List (Option Figures)
  pub plan : Option Standing
  pub events : List Event

-- The account begins empty.
abbrev pub empty : Account
empty = record { figures = replicate 16 None; plan = None; events = [] }

-- A call is granted when its answer is no refusal.
abbrev pub is_granted : Answer → Bool
is_granted Charged = true
is_granted (Planned granted) = true
is_granted Rewound = true
is_granted (Came event) = true
is_granted (PeriodIs period) = true
is_granted (RowIs row) = true
is_granted (Refused refusal) = false

-- What is kept of a granted plan, with the figures noted at that time.
abbrev pub kept_in : List (Option Figures) → Answer → Option Standing
kept_in figures Charged = None
kept_in figures (Planned granted) = Some (record { hyperperiod = granted.hyperperiod; size = granted.frame_size; figures = figures })
kept_in figures Rewound = None
kept_in figures (Came event) = None
kept_in figures (PeriodIs period) = None
kept_in figures (RowIs row) = None
kept_in figures (Refused refusal) = None

-- The event that an answer brings, if any.
abbrev pub events_in : Answer → List Event
events_in Charged = []
events_in (Planned granted) = []
events_in Rewound = []
events_in (Came event) = event ∷ []
events_in (PeriodIs period) = []
events_in (RowIs row) = []
events_in (Refused refusal) = []

-- What a granted call notes: a charge notes the figures over older ones and ends the plan; a plan keeps its
-- hyperperiod, its size and the figures noted, and clears the events; a rewind clears the events; next adds
-- its event; a read notes nothing.
abbrev pub noted : Account → Call → Answer → Account
noted a (Charge task cost deadline) answer = record {
  figures = slice_set a.figures task (Some (record { cost = cost; deadline = deadline }));
  plan = None;
  events = a.events;
}
noted a (Plan ceiling) answer = record { figures = a.figures; plan = kept_in a.figures answer; events = [] }
noted a Rewind answer = record { figures = a.figures; plan = a.plan; events = [] }
noted a Next answer = record { figures = a.figures; plan = a.plan; events = a.events ++ events_in answer }
noted a (Period task) answer = a
noted a (RowAt index) answer = a

-- The account after a call and its answer: a refused call alters nothing.
abbrev pub hear : Account → Call → Answer → Account
hear a call answer = cond (is_granted answer) (noted a call answer) a
