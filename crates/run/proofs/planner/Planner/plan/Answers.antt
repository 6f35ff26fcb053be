use Rattle.std.proofs.Common.{length, vec_items, sym, refl, subst}
use Rattle.std.proofs.lemmas.Result.{err_from_is_err_and}
use Rattle.planning.specs.Plans.{Planned, PlanDue}
use Rattle.planning.specs.Refusals.{number, place}
use Rattle.run.specs.Agrees.{StandsAs}
use Rattle.run.specs.Right.{PlanRight}
use Rattle.run.proofs.Agreement.{carries, plan_begins, plan_right}
use Rattle.run.proofs.planner.Planner.plan.Goals as goal

pub returns-in_err-make_plan : goal.returns-in_err-make_plan
returns-in_err-make_plan g c =
    let p = c.args.self.now in
    let m = g.B.Book.means p.book in
    let refused = c.in_err-make_plan.ensures in
    let e = err_from_is_err_and c.from_residual.result c.from_residual.ensures.1 in
    rw (e.1, e.2)
    (carries g.B.Book.means p _ _ _ refl
    (λ a h. subst (λ f. PlanDue m f c.args.ceiling (number c.in_err-make_plan.field-0.0) (place c.in_err-make_plan.field-0.0)) h.figures refused.0)
    (λ a h.
    record {
      figures = h.figures;
      standing = subst (λ x. StandsAs m x p.place a.plan a.events) (sym refused.1) h.standing;
    })
    (record { book = refl; figures = refl; plan = refused.1; place = refl }))

pub returns : goal.returns
returns g c =
    let p = c.args.self.now in
    let m = g.B.Book.means p.book in
    let plan = c.make_plan.new.plan in
    let made = c.in_ok-make_plan.ensures in
    carries g.B.Book.means p _ _ _ refl
    (λ a h.
    rw (c.hyperperiod.ensures, c.frame_size.ensures, c.jobs.ensures, c.row_count.ensures)
    (subst (λ f. PlanRight m f c.args.ceiling plan.hyperperiod plan.frame_size plan.jobs (length (vec_items plan.rows))) h.figures (plan_right m p.figures c.args.ceiling plan made)))
    (λ a h.
    record {
      figures = h.figures;
      standing = (
        (c.hyperperiod.ensures, c.frame_size.ensures, (c.args.ceiling, subst (λ f. Planned m f c.args.ceiling plan) h.figures made)),
        plan_begins m p.figures c.args.ceiling plan made,
      );
    })
    tt
