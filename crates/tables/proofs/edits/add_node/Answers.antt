use Rattle.tables.proofs.edits.add_node.Goals as goal
use Rattle.tables.proofs.Changes.{added_holds}

pub returns : goal.returns
returns c = λ m room t T h. added_holds h
