use Rattle.tables.proofs.lookup.row_hit.Goals as goal
use Rattle.tables.proofs.NodeRows.{row_hit}

pub returns : goal.returns
returns c = row_hit
