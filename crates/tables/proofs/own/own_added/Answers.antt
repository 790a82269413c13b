use Rattle.tables.proofs.own.own_added.Goals as goal
use Rattle.tables.proofs.Owned.{own_added}

pub returns : goal.returns
returns c = own_added
