use Rattle.worked.proofs.FiguresHold.{figures_hold}
use Rattle.worked.proofs.worked_figures.Goals as goal

pub returns : goal.returns
returns c = figures_hold
