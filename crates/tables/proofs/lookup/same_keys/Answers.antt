use Rattle.tables.proofs.lookup.same_keys.Goals as goal
use Rattle.tables.proofs.Keys.{same_keys}

pub returns : goal.returns
returns c = same_keys
