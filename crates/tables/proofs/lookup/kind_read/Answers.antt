use Rattle.tables.proofs.lookup.kind_read.Goals as goal
use Rattle.tables.proofs.Bodies.{kind_read}

pub returns : goal.returns
returns c = λ i ts p s. kind_read s
