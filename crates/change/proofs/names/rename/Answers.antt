use Rattle.std.proofs.Common.{sym, ap, ◌∙◌, subst, arith}
use Rattle.machine.specs.Tables.{entry_row}
use Rattle.tables.specs.Lookup.{place_at}
use Rattle.tables.specs.Edits.{Tables, entered}
use Rattle.tables.specs.Stands.{Holds}
use Rattle.tables.proofs.Ranges.{in_bounds, in_range}
use Rattle.tables.proofs.Operations.{moved_holds}
use Rattle.tables.proofs.Reaches.{reach}
use Rattle.tables.proofs.Bodies.{kind_small}
use Rattle.change.specs.Given.{with_cells}
use Rattle.change.proofs.Reached.{rows, entries_used}
use Rattle.change.proofs.Gone.{still_dir, index_low, left_for, stood}
use Rattle.change.proofs.names.rename.Goals as goal

pub leave-fewer-requires : goal.leave-fewer-requires
leave-fewer-requires c =
    let g = c.requires.given.1.dir in
    let r = reach g.holds in
    record {
      place = entries_used g c.requires.dir;
      index = index_low g c.requires.dir c.requires.given.1.entry;
      rows = rows r;
      entries = r.entries;
    }

pub enter_at-requires : goal.enter_at-requires
enter_at-requires c =
    let g = c.requires.given.1 in
    let e = ap (with_cells c.requires.given.0) c.leave-fewer.ensures.tables in
    let h = left_for g.dir c.requires.dir g.entry e in
    let s = stood g.dir c.requires.dir g.entry e g.at in
    let r = reach h in
    let w = in_range _ _ _ _ _ _ h s in
    let v = in_range _ _ _ _ _ _ g.dir.holds g.dir.stands in
    let ue = ap (λ (T : Tables). T.used.entries) e in
    let b = in_bounds _ _ _ _ h in
    record {
      row = (w.row, kind_small s);
      place = w.dir_entries (still_dir _ g.dir.stands g.at.stands g.to_dir s);
      rows = rows r;
      sums = r.low;
      entries =
          omega (
            arith,
            ue,
            b.entries_long,
            g.dir.holds.entries_fit,
            v.dir_entries c.requires.dir,
            index_low g.dir c.requires.dir g.entry,
          );
      name = c.requires.name;
    }

pub returns-clause-holds : goal.returns-clause-holds
returns-clause-holds c = λ cs g.
    let e = ap (with_cells cs) c.leave-fewer.ensures.tables in
    let s = stood g.dir c.requires.dir g.entry e g.at in
    let q = place_at c.args.row c.leave-fewer.new.tables.nodes.now c.leave-fewer.new.tables.sums.now in
    let row = entry_row (record { name = c.args.name.now; id = c.args.id }) in
    let all = ap (with_cells cs) c.enter_at.ensures.tables ∙ ap (entered q row) e in
    subst (Holds g.dir.most g.dir.room _) (sym all)
    (moved_holds g.whole g.dir.tree _ g.dir.id _ g.name g.to q c.args.name.now c.args.id c.args.index
    g.rest g.dir.holds g.dir.stands c.requires.dir g.entry s
    (still_dir _ g.dir.stands g.at.stands g.to_dir s))
