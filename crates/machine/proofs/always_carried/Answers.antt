use Rattle.model.specs.Promise.{all, thin}
use Rattle.machine.proofs.Always.{always_carried}
use Rattle.machine.proofs.always_carried.Goals as goal

pub returns : goal.returns
returns c = (always_carried all, always_carried thin)
