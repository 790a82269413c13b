use Rattle.bitmap.proofs.is_set.Goals as goal
use Rattle.bitmap.proofs.Maps.{read_at}

pub returns : goal.returns
returns c = read_at c.args.map.now c.args.k c.requires
