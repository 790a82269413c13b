use Rattle.model.specs.Promise.{all, thin}
use Rattle.machine.specs.Layout.{layout}
use Rattle.machine.specs.Fits.{Fits}
use Rattle.machine.proofs.Calls.{right}
use Rattle.machine.proofs.LayoutLaws.{layout_laws}
use Rattle.machine.proofs.right.Goals as goal

pub returns : goal.returns
returns c = (right layout Fits layout_laws all, right layout Fits layout_laws thin)
