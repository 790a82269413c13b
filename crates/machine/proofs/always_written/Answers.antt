use Rattle.model.specs.Promise.{all, thin}
use Rattle.machine.proofs.Always.{always_written}
use Rattle.machine.proofs.always_written.Goals as goal

pub returns : goal.returns
returns c = (always_written all, always_written thin)
