use Rattle.tables.proofs.edits.put_entry.Goals as goal
use Rattle.tables.proofs.Changes.{entered_holds}

pub returns : goal.returns
returns c = λ m room t T d p h. entered_holds h.0 h.1
