use Rattle.tables.proofs.edits.rename.Goals as goal
use Rattle.tables.proofs.Operations.{moved_holds}

pub returns : goal.returns
returns c = λ m room t s T d p n e q k i j is h. moved_holds t s T d p n e q k i j is h.0 h.1
