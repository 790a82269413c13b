-- The next row is as it was, so its sums may be changed; and each turn changes one row of those that are left.
use Rattle.std.proofs.Common.{◌+◌, ◌*◌, ◌≡◌, ◌∙◌, set, get_or, ◌≢◌, refl, arith, get_or-set_other}
use Rattle.splice.proofs.Shifts.{shifted_more, later_same, next_entries, next_cells}
use Rattle.splice.proofs.sums.change_sums.Goals as goal

pub entries-requires : goal.entries-requires
entries-requires g c =
    let p = c.requires.can_entries c.loop-row.row (omega arith) (omega arith) in
    let e = next_entries (2 * c.loop-row.row) c.loop-row.sums c.args.sums.now c.loop-row.invariant.1 in
    rw e p

pub cells-requires : goal.cells-requires
cells-requires g c =
    let p = c.requires.can_cells c.loop-row.row (omega arith) (omega arith) in
    let e = next_cells (2 * c.loop-row.row) c.loop-row.sums c.args.sums.now c.loop-row.invariant.1 in
    let other : 2 * c.loop-row.row + 1 ≢ 2 * c.loop-row.row = omega arith in
    let o : get_or (set c.loop-row.sums (2 * c.loop-row.row) c.entries.result) (2 * c.loop-row.row + 1) 0 ≡ get_or c.loop-row.sums (2 * c.loop-row.row + 1) 0 =
    get_or-set_other c.loop-row.sums (2 * c.loop-row.row) (2 * c.loop-row.row + 1) c.entries.result 0 other in
    rw (o, e) p

pub loop-row-preserved : goal.loop-row-preserved
loop-row-preserved g c = (
  λ e d he hd.
      let a = he _ _ (omega arith) c.entries.ensures in
      let b = hd _ _ (omega arith) c.cells.ensures in
      shifted_more e d (c.args.from_row + c.args.rows) c.loop-row.row c.loop-row.sums _ (omega arith) (rw (b, a) refl)
      ∙ c.loop-row.invariant.0 e d he hd,
  later_same c.loop-row.row c.entries.result c.cells.result c.loop-row.sums c.args.sums.now c.loop-row.invariant.1,
)
