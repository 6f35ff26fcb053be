use Rattle.std.proofs.Common.{Ok, sym, ap, ◌∙◌}
use Rattle.std.proofs.lemmas.Result.{err_from_is_err_and}
use Rattle.run.specs.Agrees.{planned}
use Rattle.run.specs.declared.call.Answer.TheVariants.{Refused}
use Rattle.prepare.specs.Prepared.{book_means}
use Rattle.prepare.proofs.Planning.{first_refused, planned_last, second_refused}
use Rattle.prepare.proofs.preparing.charge_and_plan.Goals as goal

pub returns-in_err-charge_all : goal.returns-in_err-charge_all
returns-in_err-charge_all c =
    let e = err_from_is_err_and c.from_residual.result c.from_residual.ensures.1 in
    rw (e.1, e.2, sym c.figures.ensures.value)
    (first_refused book_means c.args.planner.now c.charge_all.new.planner c.figures.result.now _ c.args.ceiling c.in_err-charge_all.field-0.0
    c.in_err-charge_all.ensures)

pub returns-in_err-charge_all-2 : goal.returns-in_err-charge_all-2
returns-in_err-charge_all-2 c =
    let e = err_from_is_err_and c.from_residual-in_err-charge_all-2.result c.from_residual-in_err-charge_all-2.ensures.1 in
    rw (e.1, e.2, sym c.figures.ensures.value, sym c.figures-2.ensures.value)
    (second_refused book_means c.args.planner.now c.charge_all.new.planner c.charge_all-2.new.planner c.count.result c.figures.result.now c.figures-2.result.now
    c.args.ceiling c.in_err-charge_all-2.field-0.0 (c.figures.ensures.len ∙ sym c.count.ensures)
    c.in_ok-charge_all.ensures c.in_err-charge_all-2.ensures)

pub returns-in_err-plan : goal.returns-in_err-plan
returns-in_err-plan c =
    let e = err_from_is_err_and c.from_residual-in_err-plan.result c.from_residual-in_err-plan.ensures.1 in
    rw (e.1, e.2, sym c.figures.ensures.value, sym c.figures-2.ensures.value) (λ a agrees.
    let last = planned_last book_means c.args.planner.now c.charge_all.new.planner c.charge_all-2.new.planner c.plan.new.self c.count.result
    c.figures.result.now c.figures-2.result.now c.args.ceiling (Refused c.in_err-plan.field-0.0) (c.figures.ensures.len ∙ sym c.count.ensures)
    c.in_ok-charge_all.ensures c.in_ok-charge_all-2.ensures c.in_err-plan.ensures a agrees in
    (last.0, last.1))

pub returns : goal.returns
returns c =
    rw (sym c.figures.ensures.value, sym c.figures-2.ensures.value) (
      c.plan.ensures.same ∙ c.in_ok-charge_all-2.ensures.0 ∙ c.in_ok-charge_all.ensures.0,
      λ a agrees.
          let last = planned_last book_means c.args.planner.now c.charge_all.new.planner c.charge_all-2.new.planner c.plan.new.self c.count.result
          c.figures.result.now c.figures-2.result.now c.args.ceiling (planned (Ok c.in_ok-plan.field-0)) (c.figures.ensures.len ∙ sym c.count.ensures)
          c.in_ok-charge_all.ensures c.in_ok-charge_all-2.ensures c.in_ok-plan.ensures a agrees in
          (last.0, last.1, (last.2.0.figures, ap (λ b. b.plan) last.2.1), last.3),
    )
