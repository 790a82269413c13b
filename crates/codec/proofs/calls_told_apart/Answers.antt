use Rattle.codec.proofs.Carried.{told_apart}
use Rattle.codec.proofs.calls_told_apart.Goals as goal

pub returns : goal.returns
returns c = told_apart
