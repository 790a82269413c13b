use Rattle.laws.proofs.not_in_itself.Goals as goal
use Rattle.model.specs.Promise.{all, thin}
use Rattle.laws.proofs.Below.{not_in_itself}

pub returns : goal.returns
returns c = (not_in_itself all, not_in_itself thin)
