use Rattle.laws.proofs.names_once.Goals as goal
use Rattle.model.specs.Promise.{all, thin}
use Rattle.laws.proofs.Lawfuls.{names_once}

pub returns : goal.returns
returns c = (names_once all, names_once thin)
