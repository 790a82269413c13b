use Rattle.laws.proofs.resize_keeps.Goals as goal
use Rattle.model.specs.Promise.{all, thin}
use Rattle.laws.proofs.Resizing.{resize_keeps}

pub returns : goal.returns
returns c = (resize_keeps all, resize_keeps thin)
