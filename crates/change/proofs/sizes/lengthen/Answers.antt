use Rattle.std.proofs.Common.{sym, ap, subst, arith}
use Rattle.tables.specs.Stands.{Holds}
use Rattle.tables.proofs.Ranges.{in_bounds}
use Rattle.tables.proofs.Operations.{grown_to}
use Rattle.tables.proofs.Reaches.{reach}
use Rattle.change.specs.Given.{with_entries}
use Rattle.change.proofs.Reached.{rows, cells_used}
use Rattle.change.proofs.sizes.lengthen.Goals as goal

pub grow-requires : goal.grow-requires
grow-requires c =
    let g = c.requires.held.1 in
    let r = reach g.holds in
    record {
      place = cells_used g c.requires.file;
      rows = rows r;
      sums = r.low;
      cells = c.requires.room;
    }

pub returns-clause-holds : goal.returns-clause-holds
returns-clause-holds c = λ es n more g.
    let b = in_bounds _ _ _ _ g.holds in
    subst (Holds g.most g.room _) (sym (ap (with_entries es) c.grow.ensures.tables))
    (grown_to g.holds g.stands c.requires.file n _ more (omega (arith, b.cells_long, c.requires.room)))
