use Rattle.tables.proofs.edits.grow.Goals as goal
use Rattle.tables.proofs.Operations.{grown_to}

pub returns : goal.returns
returns c = λ m room t T i p h. grown_to h.0 h.1
