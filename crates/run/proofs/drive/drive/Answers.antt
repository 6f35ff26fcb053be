use Rattle.std.proofs.Common.{◌+◌, vec_items, sym, subst, arith}
use Rattle.run.specs.declared.call.Call.TheVariants.{Charge}
use Rattle.run.proofs.WholeRuns.{CarriedOut, one_more_carried_out}
use Rattle.run.proofs.drive.drive.Goals as goal

pub loop-call-preserved : goal.loop-call-preserved
loop-call-preserved g c =
    let inv = c.loop-call.invariant in (
      omega (arith, c.push_reserved.ensures.len, inv.0),
      omega (arith, c.push_reserved.ensures.capacity, inv.1),
      subst (λ l. CarriedOut g.B.Book.means c.in_ok-planner.planner.book c.args.calls.now (c.loop-call.call-index + 1) l c.carry-answer.new.self) (sym c.push_reserved.ensures.items)
          (one_more_carried_out g.B.Book.means c.in_ok-planner.planner.book c.args.calls.now c.loop-call.call-index (vec_items c.loop-call.answers)
          c.loop-call.planner c.carry-answer.new.self c.carry-answer.result (Charge 0 0 0) c.loop-call-test.true inv.2 c.carry-answer.ensures),
    )
