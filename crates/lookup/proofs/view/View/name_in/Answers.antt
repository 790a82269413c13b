use Rattle.std.proofs.Common.{rules, ◌≡◌, Some, None, [], ◌∷◌, sym, ap, ◌∙◌}
use Rattle.tables.specs.Lookup.{name_row}
use Rattle.rows.specs.Found.{found}
use Rattle.rows.specs.Places.{place_in}
use Rattle.lookup.proofs.Typed.{ok_typed}
use Rattle.lookup.proofs.Entries.{name_stands, name_missing}
use Rattle.lookup.proofs.view.View.name_in.Goals as goal

pub returns-in_err-index : goal.returns-in_err-index
returns-in_err-index c l t d h s k =
    let n = c.args.name.now in
    let p = place_in c.args.dir in
    let key = ap (λ key. found p.count (name_row key p.count p.entries c.args.self.now.entries.now)) c.name_key.ensures in
    let none : c.find_name.result ≡ None = search (rules, c.in_err-index.was) in
    rw c.from_residual.ensures
    (name_missing h s k n (ok_typed n c.type_inv.name c.requires.named) (sym (c.find_name.ensures ∙ key) ∙ none))

pub returns : goal.returns
returns c l t d h s k =
    let n = c.args.name.now in
    let p = place_in c.args.dir in
    let key = ap (λ key. found p.count (name_row key p.count p.entries c.args.self.now.entries.now)) c.name_key.ensures in
    let some : c.find_name.result ≡ Some c.in_ok-index.index = search (rules, c.in_ok-index.was) in
    let f = name_stands h s k n (ok_typed n c.type_inv.name c.requires.named) c.in_ok-index.index
    (sym (c.find_name.ensures ∙ key) ∙ some) in
    (f.0, f.1 ∙ ap (λ i. i ∷ []) (sym c.entry_id.ensures))
