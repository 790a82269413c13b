use Rattle.tables.proofs.edits.drop_entry.Goals as goal
use Rattle.tables.proofs.Operations.{dropped_holds}

pub returns : goal.returns
returns c = λ m room t T d p h. dropped_holds h.0 h.1
