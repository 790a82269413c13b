use Rattle.tables.proofs.edits.remove.Goals as goal
use Rattle.tables.proofs.Operations.{removed_holds}

pub returns : goal.returns
returns c = λ m room t T d p h. removed_holds h.0 h.1
