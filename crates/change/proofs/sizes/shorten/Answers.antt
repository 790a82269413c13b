use Rattle.std.proofs.Common.{sym, ap, subst}
use Rattle.tables.specs.Stands.{Holds}
use Rattle.tables.proofs.Operations.{cut_to}
use Rattle.tables.proofs.Reaches.{reach}
use Rattle.change.specs.Given.{with_entries}
use Rattle.change.proofs.Reached.{rows, cells_used}
use Rattle.change.proofs.sizes.shorten.Goals as goal

pub cut-requires : goal.cut-requires
cut-requires c =
    let g = c.requires.held.1 in
    let r = reach g.holds in
    record {
      place = cells_used g c.requires.file;
      keep = c.requires.keep;
      rows = rows r;
      cells = r.cells;
    }

pub returns-clause-holds : goal.returns-clause-holds
returns-clause-holds c = λ es g.
    subst (Holds g.most g.room _) (sym (ap (with_entries es) c.cut.ensures.tables))
    (cut_to g.holds g.stands c.requires.file c.args.keep c.requires.keep)
