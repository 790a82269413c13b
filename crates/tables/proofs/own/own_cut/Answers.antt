use Rattle.tables.proofs.own.own_cut.Goals as goal
use Rattle.tables.proofs.Owned.{own_cut}

pub returns : goal.returns
returns c = λ l t i p s. own_cut l t s
