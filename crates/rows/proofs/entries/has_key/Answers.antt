-- The row's key, if there is one, is compared word by word.
use Rattle.rows.proofs.EntryRows.{has_key_is}
use Rattle.rows.proofs.entries.has_key.Goals as goal

pub returns : goal.returns
returns c = has_key_is c.args.row.now c.args.key c.get.result _ c.get.ensures.lookup.0 c.eq.ensures
