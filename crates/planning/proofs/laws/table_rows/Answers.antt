use Rattle.planning.proofs.FewRows.{rows_are_few}
use Rattle.planning.proofs.OneTable.{rows_are_one}
use Rattle.planning.proofs.laws.table_rows.Goals as goal

pub returns : goal.returns
returns c = record { one = rows_are_one; few = rows_are_few }
