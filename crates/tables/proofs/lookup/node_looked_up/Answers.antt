use Rattle.tables.proofs.lookup.node_looked_up.Goals as goal
use Rattle.tables.proofs.NodeRows.{looked_up}

pub returns : goal.returns
returns c = looked_up
