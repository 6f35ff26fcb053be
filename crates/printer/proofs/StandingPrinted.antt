use Rattle.std.proofs.Common.{◌≡◌, ℕ, List, Some, None, vec_items, Option, Result, sym, ap, ◌∙◌, subst, arith}
use Rattle.books.specs.Meaning.{Meaning}
use Rattle.planning.specs.declared.plan.Plan.{Plan}
use Rattle.planning.specs.Plans.{Planned, jobs_in, period_in, tasks_in}
use Rattle.run.specs.Account.{Standing}
use Rattle.run.specs.Agrees.{StandingRead}
use Rattle.run.proofs.Agreement.{keeps_plan}
use Rattle.printer.specs.Printed.{PlanPrinted, TextOf, Written}
use Rattle.printer.specs.Text.{periods_to, plan_text, text_of}
use Rattle.printer.specs.declared.refusal.PrintRefusal.{PrintRefusal}

-- The text of the plan that stands is by the book's meaning and what was kept.
text_by_meaning : (m : Meaning) (k : Standing) (ceiling : ℕ) (plan : Plan) → k.hyperperiod ≡ plan.hyperperiod → k.size ≡ plan.frame_size → Planned m k.figures ceiling plan → TextOf m k (text_of plan)
text_by_meaning m k ceiling plan h s made =
    let rows = vec_items plan.rows in
    let text : ℕ → ℕ → List ℕ = λ jobs count. plan_text plan.hyperperiod plan.frame_size jobs (periods_to count (period_in plan)) rows in
    subst (λ x. TextOf m x (text_of plan)) (sym (keeps_plan k plan h s)) (record {
      rows = rows;
      table = record { period = period_in plan; chosen = made.prepared.chosen; greedy = made.rows };
      written = ap (λ jobs. text jobs (tasks_in plan)) made.jobs ∙ ap (text (jobs_in plan.hyperperiod (period_in plan) m.count)) made.tasks;
    })

-- Where the plan that stands is written or found too long, it is printed.
pub standing_printed : (m : Meaning) (kept : Option Standing) (plan : Plan) (before after : List ℕ) (answer : Result ℕ PrintRefusal) → StandingRead m kept (Some plan) → Written (text_of plan) before after answer → PlanPrinted m kept before after answer
standing_printed m None plan before after answer read written = let z : ◌≡◌ {A = ℕ} 0 1 = cc in absurd (omega arith)
standing_printed m (Some k) plan before after answer (h, s, (ceiling, made)) written =
    (text_of plan, text_by_meaning m k ceiling plan h s made, written)
