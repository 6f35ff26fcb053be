use Rattle.sheets.proofs.NumbersStand.{numbers_stand}
use Rattle.sheets.proofs.laws.numbers_stand.Goals as goal

pub returns : goal.returns
returns c = numbers_stand
