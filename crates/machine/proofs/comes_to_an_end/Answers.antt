use Rattle.model.specs.Promise.{all, thin}
use Rattle.machine.specs.Layout.{layout}
use Rattle.machine.specs.Fits.{Fits}
use Rattle.machine.proofs.Calls.{ends}
use Rattle.machine.proofs.LayoutLaws.{layout_laws}
use Rattle.machine.proofs.comes_to_an_end.Goals as goal

pub returns : goal.returns
returns c = (ends layout Fits layout_laws all, ends layout Fits layout_laws thin)
