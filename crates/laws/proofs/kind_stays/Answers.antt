use Rattle.laws.proofs.kind_stays.Goals as goal
use Rattle.model.specs.Promise.{all, thin}
use Rattle.laws.proofs.SameKind.{kind_stays}

pub returns : goal.returns
returns c = (kind_stays all, kind_stays thin)
