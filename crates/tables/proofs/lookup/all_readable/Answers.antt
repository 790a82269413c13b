use Rattle.tables.proofs.lookup.all_readable.Goals as goal
use Rattle.tables.proofs.Held.{readable}

pub returns : goal.returns
returns c = readable
