use Rattle.std.proofs.Common.{◌≡◌, ℕ, ◌<◌, ◌≤◌, true, List, cond, ltb, length, get_or, take, sym, subst, refl, ◌∙◌, inl, inr, arith}
use Rattle.std.proofs.lemmas.List.Sorted.{sum_by-IsPermutation}
use Rattle.std.proofs.lemmas.Bool.{cond-true, lt-ltb}
use Rattle.std.proofs.lemmas.Bool.Decides.{nat_tests}
use Rattle.orders.specs.Held.{held}
use Rattle.planning.specs.Waits.{waiting_of}
use Rattle.planning.specs.Windows.{job_at}
use Rattle.planning.specs.declared.job.Job.{Job}
use Rattle.planning.proofs.Underway.{fewer_lack, service_begins, service_ends, service_goes_on, still_lacks}
use Rattle.planning.proofs.Weighed.{taken_waits}
use Rattle.planning.proofs.table.Table.serve.Goals as goal
use Rattle.planning.proofs.table.Table.serve.Goals.{In-Some}

pub loop-left-init : goal.loop-left-init
loop-left-init c = (
  service_begins c.args.jobs.now.list.items c.args.frame c.args.size c.args.self.now.lacks.items (held c.new-waiting.result) c.args.self.now.rows.items
      (λ weight. sum_by-IsPermutation weight (take c.gather-count.result c.gather-count.new.slots) (held c.new-waiting.result) c.new-waiting.ensures.held ∙ (rw c.deref.ensures.value at c.gather-count.ensures.held) weight),
  c.new-waiting.ensures.sound,
  grind (arith, nat_tests),
  refl,
  refl,
  refl,
)

pub returns-in_default-clause-served : goal.returns-in_default-clause-served
returns-in_default-clause-served c =
    service_ends c.args.jobs.now.list.items c.args.frame c.args.size c.args.self.now.lacks.items c.loop-left.self.lacks.items c.loop-left.left (held c.loop-left.waiting)
    c.args.self.now.rows.items c.loop-left.self.rows.items c.loop-left.invariant.0 (inr c.in_default.ensures.held.0)

-- the job that is taken is a listed one that waits
found : (c : goal.In-Some) → (i : ℕ) × (i < length c.args.jobs.now.list.items) × (c.loop-left.invariant.0.waits i ≡ true) × (c.in-Some.first ≡ waiting_of (job_at c.args.jobs.now.list.items i))
found c =
    let u = c.loop-left.invariant.0 in
    taken_waits c.args.jobs.now.list.items u.waits (held c.loop-left.waiting) u.holds c.in-Some.first (held c.take.new.self) c.in-Some.ensures.held

pub position-requires : goal.position-requires
position-requires c = let f = found (goal.at.position-requires c).In-Some in (f.0, f.1, f.3)

-- and it stands at the position that is asked for
at_position : (c : goal.In-Some) (p : ℕ) → ((i : ℕ) → i < length c.args.jobs.now.list.items → c.in-Some.first ≡ waiting_of (job_at c.args.jobs.now.list.items i) → p ≡ i)
    → (p < length c.args.jobs.now.list.items) × (c.loop-left.invariant.0.waits p ≡ true) × (c.in-Some.first ≡ waiting_of (job_at c.args.jobs.now.list.items p))
at_position c p is =
    let f = found c in
    subst (λ j. (j < length c.args.jobs.now.list.items) × (c.loop-left.invariant.0.waits j ≡ true) × (c.in-Some.first ≡ waiting_of (job_at c.args.jobs.now.list.items j))) (sym (is f.0 f.1 f.3)) (f.1, f.2, f.3)

-- ticks are left
some_left : (c : goal.In-Some) → cond {A = ℕ} (ltb 0 c.loop-left.left) 1 0 ≡ 1
some_left c = cond-true {A = ℕ} (ltb 0 c.loop-left.left) 1 0 (lt-ltb 0 c.loop-left.left c.loop-left-test.true)

pub give-left-requires : goal.give-left-requires
give-left-requires c =
    let at_first = (goal.at.give-left-requires c).In-Some in
    let is = at_position at_first c.position.result c.position.ensures in
    record {
      inside = omega (arith, is.0, c.args.jobs.now.few, c.args.jobs.now.list.ok.0);
      room = omega (arith, some_left at_first, c.loop-left.invariant.2, c.requires.room);
    }

pub loop-left-smaller : goal.loop-left-smaller
loop-left-smaller c =
    let at_first = (goal.at.loop-left-smaller c).In-Some in
    let is = at_position at_first c.position.result c.position.ensures in
    let lacks_here : 0 < get_or c.loop-left.self.lacks.items c.position.result 0 =
    still_lacks c.args.jobs.now.list.items c.args.frame c.args.size c.args.self.now.lacks.items c.loop-left.self.lacks.items c.loop-left.left (held c.loop-left.waiting)
    c.args.self.now.rows.items c.loop-left.self.rows.items c.loop-left.invariant.0 c.in-Some.first (held c.take.new.self) c.in-Some.ensures.held
    c.position.result 0 is.0 is.1 is.2
    in
    omega (arith, c.give-left.ensures.gift, c.loop-left-test.true)

pub loop-left-preserved : goal.loop-left-preserved
loop-left-preserved c =
    let at_first = (goal.at.loop-left-preserved c).In-Some in
    let is = at_position at_first c.position.result c.position.ensures in
    let jobs : List Job = c.args.jobs.now.list.items in
    let inv = c.loop-left.invariant in
    let long : length jobs ≤ length c.loop-left.self.lacks.items =
    omega (arith, c.args.jobs.now.few, c.args.jobs.now.list.ok.0, c.loop-left.self.lacks_room, c.loop-left.self.lacks.ok.0)
    in
    let fewer =
    fewer_lack jobs c.args.frame c.args.size c.args.self.now.lacks.items c.loop-left.self.lacks.items c.loop-left.left (held c.loop-left.waiting)
    c.args.self.now.rows.items c.loop-left.self.rows.items inv.0 c.in-Some.first (held c.take.new.self) c.in-Some.ensures.held
    c.position.result c.give-left.result is.0 is.1 is.2 long c.loop-left-test.true c.args.jobs.now.order (c.in-Some.ensures.least inv.1)
    c.give-left.new.self.lacks.items c.give-left.ensures.gift c.give-left.ensures.lacks
    in (
      service_goes_on jobs c.args.frame c.args.size c.args.self.now.lacks.items c.loop-left.self.lacks.items c.loop-left.left (held c.loop-left.waiting)
          c.args.self.now.rows.items c.loop-left.self.rows.items inv.0 c.in-Some.first (held c.take.new.self) c.in-Some.ensures.held
          c.position.result c.give-left.result is.0 is.1 is.2 long c.loop-left-test.true c.args.jobs.now.order (c.in-Some.ensures.least inv.1)
          c.give-left.new.self.lacks.items c.give-left.ensures.gift c.give-left.ensures.lacks c.give-left.new.self.rows.items c.give-left.ensures.rows,
      c.in-Some.ensures.sound inv.1,
      omega (arith, fewer, some_left at_first, inv.2, c.give-left.ensures.len),
      c.in-Some.ensures.lender ∙ inv.3,
      c.give-left.ensures.capacity.0 ∙ inv.4,
      c.give-left.ensures.capacity.1 ∙ inv.5,
    )

pub shape_of-slots-in-loop-left : goal.shape_of-slots-in-loop-left
shape_of-slots-in-loop-left c = sym (c.loop-left.invariant.3 ∙ c.new-waiting.ensures.lender)

pub shape_of-slots-in_default : goal.shape_of-slots-in_default
shape_of-slots-in_default c = sym (c.in_default.ensures.lender ∙ c.loop-left.invariant.3 ∙ c.new-waiting.ensures.lender)

pub returns-clause-served : goal.returns-clause-served
returns-clause-served c =
    service_ends c.args.jobs.now.list.items c.args.frame c.args.size c.args.self.now.lacks.items c.loop-left.self.lacks.items c.loop-left.left (held c.loop-left.waiting)
    c.args.self.now.rows.items c.loop-left.self.rows.items c.loop-left.invariant.0 (inl (omega arith))
