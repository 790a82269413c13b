use Rattle.tables.proofs.lookup.in_bounds.Goals as goal
use Rattle.tables.proofs.Ranges.{in_bounds}

pub returns : goal.returns
returns c = in_bounds
