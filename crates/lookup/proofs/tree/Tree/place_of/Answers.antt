use Rattle.std.proofs.Common.{rules, ◌≡◌, Some, None, sym, ◌∙◌, subst}
use Rattle.tables.specs.Stands.{Stands}
use Rattle.lookup.proofs.Places.{stands, missing}
use Rattle.lookup.proofs.Rely.{any_ascends, any_node, any_sum, any_kind}
use Rattle.lookup.proofs.tree.Tree.place_of.Goals as goal

pub find_row-requires-clause-ascend : goal.find_row-requires-clause-ascend
find_row-requires-clause-ascend c = any_ascends c.args.self.now.sound

pub returns-in_err-row : goal.returns-in_err-row
returns-in_err-row c l t h =
    let none : c.find_row.result ≡ None = search (rules, c.in_err-row.was) in
    rw c.from_residual.ensures (missing h c.args.id (sym c.find_row.ensures ∙ none))

pub place_at-requires : goal.place_at-requires
place_at-requires c =
    let s = c.args.self.now.sound in
    let some : c.find_row.result ≡ Some c.in_ok-row.row = search (rules, c.in_ok-row.was) in
    let e = sym c.find_row.ensures ∙ some in
    record {
      nodes = any_node s c.args.id c.in_ok-row.row e;
      sums = any_sum s c.args.id c.in_ok-row.row e;
      kind = any_kind s c.args.id c.in_ok-row.row e;
    }

pub returns : goal.returns
returns c l t h =
    let some : c.find_row.result ≡ Some c.in_ok-row.row = search (rules, c.in_ok-row.was) in
    subst (Stands c.args.id t.nodes) (sym c.place_at.ensures)
    (stands h c.args.id c.in_ok-row.row (sym c.find_row.ensures ∙ some)).1
