use Rattle.laws.proofs.sync_lasts.Goals as goal
use Rattle.laws.proofs.SyncLasts.{sync_lasts}

pub returns : goal.returns
returns c = sync_lasts
