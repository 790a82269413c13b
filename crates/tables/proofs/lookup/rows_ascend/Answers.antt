use Rattle.tables.proofs.lookup.rows_ascend.Goals as goal
use Rattle.tables.proofs.NodeRows.{rows_ascend}

pub returns : goal.returns
returns c = rows_ascend
