use Rattle.laws.proofs.has_room.Goals as goal
use Rattle.model.specs.Promise.{all, thin}
use Rattle.laws.proofs.Held.{has_room}

pub returns : goal.returns
returns c = (has_room all, has_room thin)
