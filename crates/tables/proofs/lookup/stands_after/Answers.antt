use Rattle.tables.proofs.lookup.stands_after.Goals as goal
use Rattle.tables.proofs.Held.{stands_after}

pub returns : goal.returns
returns c = stands_after
