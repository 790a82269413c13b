use Rattle.tables.proofs.edits.drop_sums.Goals as goal
use Rattle.tables.proofs.Changes.{gone_sums}

pub returns : goal.returns
returns c = λ m room t T i p h. gone_sums h.0 h.1
