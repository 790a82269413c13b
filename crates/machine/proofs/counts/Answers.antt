use Rattle.machine.proofs.Cost.{acts_counted, changes_fit}
use Rattle.machine.proofs.counts.Goals as goal

pub returns : goal.returns
returns c = record { acts = acts_counted; changes = changes_fit }
