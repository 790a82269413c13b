use Rattle.tables.proofs.edits.make.Goals as goal
use Rattle.tables.proofs.Operations.{made_holds}

pub returns : goal.returns
returns c = λ m room t T d p h. made_holds h.0 h.1
