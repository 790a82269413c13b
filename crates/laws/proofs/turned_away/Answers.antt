use Rattle.laws.proofs.turned_away.Goals as goal
use Rattle.laws.proofs.Refused.{turned_away}

pub returns : goal.returns
returns c = turned_away
