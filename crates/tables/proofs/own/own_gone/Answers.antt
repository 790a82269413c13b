use Rattle.tables.proofs.own.own_gone.Goals as goal
use Rattle.tables.proofs.Owned.{own_gone}

pub returns : goal.returns
returns c = λ l t i p s. own_gone l t s
