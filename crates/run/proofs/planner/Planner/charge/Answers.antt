use Rattle.std.proofs.Common.{rules}
use Rattle.run.proofs.Agreement.{agrees_kept}
use Rattle.run.proofs.planner.Planner.charge.Goals as goal

pub returns-then-task-count : goal.returns-then-task-count
returns-then-task-count g c = search (rules, agrees_kept)

pub returns-then-not-is_figure : goal.returns-then-not-is_figure
returns-then-not-is_figure g c = search (rules, agrees_kept)

pub returns-then-not-is_figure-2 : goal.returns-then-not-is_figure-2
returns-then-not-is_figure-2 g c = search (rules, agrees_kept)
