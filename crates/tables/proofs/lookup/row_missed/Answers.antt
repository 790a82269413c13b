use Rattle.tables.proofs.lookup.row_missed.Goals as goal
use Rattle.tables.proofs.NodeRows.{row_missed}

pub returns : goal.returns
returns c = row_missed
