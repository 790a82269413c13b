use Rattle.tables.proofs.lookup.holds_is.Goals as goal
use Rattle.tables.proofs.Held.{holds_is}

pub returns : goal.returns
returns c = holds_is
