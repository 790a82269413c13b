use Rattle.laws.proofs.tree_kept.Goals as goal
use Rattle.laws.proofs.Kept.{tree_kept}

pub returns : goal.returns
returns c = tree_kept
