use Rattle.std.proofs.Common.{Ok, Err}
use Rattle.std.proofs.lemmas.Result.{err_from_is_err_and}
use Rattle.console.proofs.TextTold.{fault_told, plan_told}
use Rattle.console.proofs.answer.Goals as goal

pub returns-in_err-print-in-Ok : goal.returns-in_err-print-in-Ok
returns-in_err-print-in-Ok c =
    let e = err_from_is_err_and c.from_residual-in_err-print-in-Ok.result c.from_residual-in_err-print-in-Ok.ensures.1 in
    rw (e.1, e.2) (plan_told c.args.out.now c.print.new.out (Err c.in_err-print-in-Ok.field-0.0) c.in-Ok.ensures c.in_err-print-in-Ok.ensures)

pub returns-in-Ok : goal.returns-in-Ok
returns-in-Ok c = plan_told c.args.out.now c.print.new.out (Ok c.in_ok-print-in-Ok.field-0) c.in-Ok.ensures c.in_ok-print-in-Ok.ensures

pub returns-in_err-print_notice-in-Err-Fault : goal.returns-in_err-print_notice-in-Err-Fault
returns-in_err-print_notice-in-Err-Fault c =
    let e = err_from_is_err_and c.from_residual-in_err-print_notice-in-Err-Fault.result c.from_residual-in_err-print_notice-in-Err-Fault.ensures.1 in
    let answered = rw c.in-Err-Fault.field-0-is at c.in-Err-Fault.ensures in
    rw (e.1, e.2)
    (fault_told c.args.ranges.now c.args.lists.now c.args.step c.args.ceiling c.in-Err-Fault.fault c.notice.result c.args.out.now c.print_notice.new.out
    (Err c.in_err-print_notice-in-Err-Fault.field-0.0) answered.0 c.notice.ensures c.in_err-print_notice-in-Err-Fault.ensures)

pub returns-in-Err-Fault : goal.returns-in-Err-Fault
returns-in-Err-Fault c =
    let answered = rw c.in-Err-Fault.field-0-is at c.in-Err-Fault.ensures in
    fault_told c.args.ranges.now c.args.lists.now c.args.step c.args.ceiling c.in-Err-Fault.fault c.notice.result c.args.out.now c.print_notice.new.out
    (Ok c.in_ok-print_notice-in-Err-Fault.field-0) answered.0 c.notice.ensures c.in_ok-print_notice-in-Err-Fault.ensures
