use Rattle.tables.proofs.own.own_dir.Goals as goal
use Rattle.tables.proofs.Owned.{own_dir}

pub returns : goal.returns
returns c = λ l t i p s. own_dir l t s
