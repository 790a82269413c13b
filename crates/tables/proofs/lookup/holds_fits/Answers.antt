use Rattle.tables.proofs.lookup.holds_fits.Goals as goal
use Rattle.tables.proofs.Held.{holds_fits}

pub returns : goal.returns
returns c = holds_fits
