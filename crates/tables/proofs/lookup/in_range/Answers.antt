use Rattle.tables.proofs.lookup.in_range.Goals as goal
use Rattle.tables.proofs.Ranges.{in_range}

pub returns : goal.returns
returns c = in_range
