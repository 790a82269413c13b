use Rattle.std.proofs.Common.{rules}
use Rattle.lookup.proofs.Kept.{entries_by}
use Rattle.lookup.proofs.tree.Tree.has_entries.Goals as goal

pub returns : goal.returns
returns c l t h =
    entries_by t c.args.id c.directory.result c.is_some_and.result (search rules) (c.directory.ensures.found l t h)
