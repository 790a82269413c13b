use Rattle.laws.proofs.all_lawful.Goals as goal
use Rattle.model.specs.Promise.{all, thin}
use Rattle.laws.proofs.Lawfuls.{all_lawful}

pub returns : goal.returns
returns c = (all_lawful all, all_lawful thin)
