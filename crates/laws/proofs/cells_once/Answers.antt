use Rattle.laws.proofs.cells_once.Goals as goal
use Rattle.model.specs.Promise.{all, thin}
use Rattle.laws.proofs.Apart.{cells_once}

pub returns : goal.returns
returns c = (cells_once all, cells_once thin)
