use Rattle.model.specs.Promise.{all, thin}
use Rattle.machine.specs.Layout.{layout}
use Rattle.machine.proofs.Quiet.{looking, refusing}
use Rattle.machine.proofs.does_nothing.Goals as goal

pub returns : goal.returns
returns c = record { looking = (looking layout all, looking layout thin); refusing = (refusing layout all, refusing layout thin) }
