use Rattle.laws.proofs.copied_whole.Goals as goal
use Rattle.laws.proofs.Copied.{copied_whole}

pub returns : goal.returns
returns c = copied_whole
