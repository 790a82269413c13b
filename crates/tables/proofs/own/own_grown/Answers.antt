use Rattle.tables.proofs.own.own_grown.Goals as goal
use Rattle.tables.proofs.Owned.{own_grown}

pub returns : goal.returns
returns c = λ l t i p s. own_grown l t s
