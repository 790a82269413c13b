use Rattle.laws.proofs.named_once.Goals as goal
use Rattle.model.specs.Promise.{all, thin}
use Rattle.laws.proofs.Lawfuls.{named_once}

pub returns : goal.returns
returns c = (named_once all, named_once thin)
