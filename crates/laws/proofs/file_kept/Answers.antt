use Rattle.laws.proofs.file_kept.Goals as goal
use Rattle.laws.proofs.Kept.{file_kept}

pub returns : goal.returns
returns c = file_kept
