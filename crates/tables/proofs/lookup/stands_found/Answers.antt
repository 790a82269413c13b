use Rattle.tables.proofs.lookup.stands_found.Goals as goal
use Rattle.tables.proofs.Bodies.{has_body}

pub returns : goal.returns
returns c = λ i ts p s. has_body s
