use Rattle.laws.proofs.all_below.Goals as goal
use Rattle.model.specs.Promise.{all, thin}
use Rattle.laws.proofs.Lawfuls.{all_below}

pub returns : goal.returns
returns c = (all_below all, all_below thin)
