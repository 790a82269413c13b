use Rattle.tables.proofs.edits.drop_node.Goals as goal
use Rattle.tables.proofs.Changes.{gone_holds}

pub returns : goal.returns
returns c = λ m room t T i p h. gone_holds h.0 h.1
