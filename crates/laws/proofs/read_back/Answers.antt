use Rattle.laws.proofs.read_back.Goals as goal
use Rattle.model.specs.Promise.{all, thin}
use Rattle.laws.proofs.Reading.{read_back}

pub returns : goal.returns
returns c = (read_back all, read_back thin)
