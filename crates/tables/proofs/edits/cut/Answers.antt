use Rattle.tables.proofs.edits.cut.Goals as goal
use Rattle.tables.proofs.Operations.{cut_to}

pub returns : goal.returns
returns c = λ m room t T i p h. cut_to h.0 h.1
