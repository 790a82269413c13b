use Rattle.std.proofs.Common.{sym, ap, ◌∙◌, subst}
use Rattle.tables.specs.Lookup.{place_at}
use Rattle.tables.specs.Edits.{gone}
use Rattle.tables.specs.Stands.{Holds}
use Rattle.tables.proofs.Ranges.{in_range}
use Rattle.tables.proofs.Operations.{removed_holds}
use Rattle.tables.proofs.Reaches.{reach}
use Rattle.tables.proofs.Bodies.{kind_small}
use Rattle.change.proofs.Reached.{rows, entries_used}
use Rattle.change.proofs.Gone.{own_cells_used, index_low, none_still, left_for, stood}
use Rattle.change.proofs.names.remove.Goals as goal

pub leave-fewer-requires : goal.leave-fewer-requires
leave-fewer-requires c =
    let g = c.requires.given.dir in
    let r = reach g.holds in
    record {
      place = entries_used g c.requires.dir;
      index = index_low g c.requires.dir c.requires.given.entry;
      rows = rows r;
      entries = r.entries;
    }

pub drop_at-requires : goal.drop_at-requires
drop_at-requires c =
    let g = c.requires.given in
    let e = c.leave-fewer.ensures.tables in
    let h = left_for g.dir c.requires.dir g.entry e in
    let s = stood g.dir c.requires.dir g.entry e g.at in
    let r = reach h in
    let w = in_range _ _ _ _ _ _ h s in
    record {
      row = (w.row, kind_small s);
      place = own_cells_used h s (none_still g.dir c.requires.dir g.entry g.node g.empty);
      rows = rows r;
      cells = r.cells;
    }

pub returns-clause-holds : goal.returns-clause-holds
returns-clause-holds c = λ g.
    let e = c.leave-fewer.ensures.tables in
    let s = stood g.dir c.requires.dir g.entry e g.at in
    let q = place_at c.args.row c.leave-fewer.new.tables.nodes.now c.leave-fewer.new.tables.sums.now in
    subst (Holds g.dir.most g.dir.room _) (sym (c.drop_at.ensures.tables ∙ ap (gone q) e))
    (removed_holds g.dir.holds g.dir.stands c.requires.dir g.name c.args.index g.node q g.entry g.empty s)
