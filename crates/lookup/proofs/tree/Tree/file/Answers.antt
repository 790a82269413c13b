use Rattle.std.proofs.Common.{rules}
use Rattle.lookup.proofs.Kept.{file_found}
use Rattle.lookup.proofs.Rely.{any_cells}
use Rattle.lookup.proofs.tree.Tree.file.Goals as goal

pub returns-clause-found : goal.returns-clause-found
returns-clause-found c l t h =
    file_found t c.args.id c.place_of.result c.filter.result (search rules) (c.place_of.ensures l t h)

pub returns-clause-inside : goal.returns-clause-inside
returns-clause-inside c = any_cells c.args.self.now.sound c.args.id c.filter.result (returns-clause-found c)
