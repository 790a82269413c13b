use Rattle.laws.proofs.afternoon.Goals as goal
use Rattle.laws.proofs.Worked.{afternoon}

pub returns : goal.returns
returns c = afternoon
