use Rattle.std.proofs.Common.{refl, ◌∙◌}
use Rattle.std.proofs.lemmas.Result.{err_from_is_err_and}
use Rattle.prepare.proofs.Meanings.{fault_is_due, planned_is_ready, same_books}
use Rattle.prepare.proofs.preparing.prepare.Goals as goal

pub returns-in_err-granted : goal.returns-in_err-granted
returns-in_err-granted c =
    let e = err_from_is_err_and c.from_residual-in_err-granted.result c.from_residual-in_err-granted.ensures.1 in
    let read = c.in_ok-ranges.ensures in
    let fresh = c.in_ok-fresh.ensures in
    rw (e.1, e.2) (
      fault_is_due c.args.ranges.now c.args.lists.now c.args.step c.args.ceiling c.in_err-granted.field-0.0 c.in_ok-ranges.ranges c.in_ok-ranges.lists
          c.in_ok-fresh.fresh c.charge_and_plan.new.planner read.0 read.1 read.2 fresh.0
          (fresh.1 ∙ same_books c.args.step _ _ _ _ c.book.ensures c.book-2.ensures)
          c.in_err-granted.ensures,
      refl,
    )

pub returns : goal.returns
returns c =
    let read = c.in_ok-ranges.ensures in
    let fresh = c.in_ok-fresh.ensures in
    planned_is_ready c.args.ranges.now c.args.lists.now c.args.step c.args.ceiling c.in_ok-granted.granted c.in_ok-ranges.ranges c.in_ok-ranges.lists
    c.in_ok-fresh.fresh c.charge_and_plan.new.planner read.0 read.1 read.2 fresh.0
    (fresh.1 ∙ same_books c.args.step _ _ _ _ c.book.ensures c.book-2.ensures)
    c.in_ok-granted.ensures
