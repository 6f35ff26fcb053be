use Rattle.sheets.proofs.PartsStand.{parts_stand}
use Rattle.sheets.proofs.laws.parts_stand.Goals as goal

pub returns : goal.returns
returns c = parts_stand
