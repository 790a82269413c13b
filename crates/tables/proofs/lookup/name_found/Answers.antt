use Rattle.tables.proofs.lookup.name_found.Goals as goal
use Rattle.tables.proofs.EntryRows.{name_looked_up}

pub returns : goal.returns
returns c = λ ts y next i p n s k ok ok-n. name_looked_up s y next ok n ok-n k
