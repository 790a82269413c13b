use Rattle.tables.proofs.lookup.sums_made.Goals as goal
use Rattle.tables.proofs.Summing.{sums_made}

pub returns : goal.returns
returns c = sums_made
