use Rattle.std.specs.Prelude.{ℕ}
use Rattle.planning.specs.Refusals.{number as planning_number, place as planning_place}
use Rattle.run.specs.declared.refusal.Refusal.{Refusal}
use Rattle.run.specs.declared.refusal.Refusal.TheVariants.{TaskOutOfRange, CostOutOfRange, DeadlineOutOfRange, Planning, NoPlan, Ended}

-- Each refusal's number: that of the question which got a no.
abbrev pub number : Refusal → ℕ
number (TaskOutOfRange task) = 1
number (CostOutOfRange task) = 2
number (DeadlineOutOfRange task) = 3
number (Planning refusal) = planning_number refusal
number NoPlan = 10
number Ended = 11

-- Each refusal's place: the task that it is about, or 0.
abbrev pub place : Refusal → ℕ
place (TaskOutOfRange task) = task
place (CostOutOfRange task) = task
place (DeadlineOutOfRange task) = task
place (Planning refusal) = planning_place refusal
place NoPlan = 0
place Ended = 0
