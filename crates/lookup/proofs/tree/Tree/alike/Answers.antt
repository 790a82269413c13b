use Rattle.std.proofs.Common.{rules}
use Rattle.lookup.proofs.Kept.{alike_by}
use Rattle.lookup.proofs.tree.Tree.alike.Goals as goal

pub returns : goal.returns
returns c l t h =
    alike_by t c.args.a c.args.b c.is_some_and.result c.place_of.result c.place_of-2.result (search rules)
    (c.place_of.ensures l t h) (c.place_of-2.ensures l t h)
