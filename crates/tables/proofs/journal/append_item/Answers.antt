use Rattle.tables.proofs.journal.append_item.Goals as goal
use Rattle.tables.proofs.Appends.{appended}

pub returns : goal.returns
returns c = appended
