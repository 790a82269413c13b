use Rattle.model.specs.Promise.{all, thin}
use Rattle.machine.specs.Layout.{layout}
use Rattle.machine.specs.Fits.{Fits}
use Rattle.machine.proofs.Calls.{small}
use Rattle.machine.proofs.LayoutLaws.{layout_laws}
use Rattle.machine.proofs.stays_small.Goals as goal

pub returns : goal.returns
returns c = (small layout Fits layout_laws all, small layout Fits layout_laws thin)
