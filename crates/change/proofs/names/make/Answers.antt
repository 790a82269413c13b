use Rattle.std.proofs.Common.{length, sym, ap, ◌∙◌, subst, arith}
use Rattle.machine.specs.Tables.{entry_row}
use Rattle.tables.specs.Edits.{Tables, entered}
use Rattle.tables.specs.Stands.{Holds}
use Rattle.tables.proofs.Ranges.{in_bounds}
use Rattle.tables.proofs.Reaches.{Reach, reach}
use Rattle.rows.specs.Places.{place_in}
use Rattle.change.specs.Given.{with_cells}
use Rattle.change.proofs.Reached.{rows, entries_used}
use Rattle.change.proofs.Made.{added_for, made_for}
use Rattle.change.proofs.names.make.Goals as goal

pub add_node-more-requires : goal.add_node-more-requires
add_node-more-requires c =
    let b = in_bounds _ _ _ _ c.requires.held.1.holds in
    record {
      next = c.requires.node_room.1;
      nodes = c.requires.node_room.0;
      sums = omega (arith, b.nodes_long, b.sums_long, c.requires.node_room.0);
    }

pub enter_name-requires : goal.enter_name-requires
enter_name-requires c =
    let g = c.requires.held.1 in
    let b = in_bounds _ _ _ _ g.holds in
    let w = entries_used g c.requires.dir in
    let e = ap (with_cells c.requires.held.0) c.add_node-more.ensures.tables in
    let r = subst Reach (sym e) (reach (added_for g (omega (arith, b.nodes_long, c.requires.node_room.0)) c.args.kind)) in
    let un = ap (λ (T : Tables). T.used.nodes) e in
    let ue = ap (λ (T : Tables). T.used.entries) e in
    record {
      place = (omega (arith, w.0, un), omega (arith, w.1, ue));
      rows = rows r;
      sums = r.low;
      entries = omega (arith, ue, ap (λ (T : Tables). length T.entries) e, c.requires.entry_room);
      name = c.requires.name;
    }

pub returns-clause-holds : goal.returns-clause-holds
returns-clause-holds c = λ cs g.
    let b = in_bounds _ _ _ _ g.holds in
    let row = entry_row (record { name = c.args.name.now; id = c.args.used.next }) in
    let e = c.enter_name.ensures.tables ∙ ap (entered (place_in c.args.place) row) c.add_node-more.ensures.tables in
    subst (Holds g.most g.room _) (sym (ap (with_cells cs) e))
    (made_for g c.requires.dir (omega (arith, b.nodes_long, c.requires.node_room.0))
    (omega (arith, b.entries_long, c.requires.entry_room)) c.args.name.now c.args.kind)
