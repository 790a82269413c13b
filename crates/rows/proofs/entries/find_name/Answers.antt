-- The first row that has the key, among the chunks of the directory's rows.
use Rattle.std.proofs.Common.{rules, ◌≡◌, ◌∙◌, ◌+◌, ◌-◌, ◌*◌, List, ℕ, take, drop, ap, arith, length-take, length-drop}
use Rattle.std.proofs.lemmas.Iterator.Search.{position_from_yields_List}
use Rattle.rows.proofs.EntryRows.{test, rows_yield, row_found}
use Rattle.rows.proofs.entries.find_name.Goals as goal

pub returns : goal.returns
returns c =
    let ws : List ℕ =
    take (16 * (c.args.first + c.args.count) - 16 * c.args.first) (drop (16 * c.args.first) c.args.entries.now) in
    let n : 16 * (c.args.first + c.args.count) - 16 * c.args.first ≡ 16 * c.args.count = omega arith in
    (search rules) ∙ row_found c.args.key.now c.args.entries.now ws _ c.args.first c.args.count c.requires
    (ap (λ k. take k (drop (16 * c.args.first) c.args.entries.now)) n)
    (position_from_yields_List (test c.args.key.now) _ _ _ c.position.ensures.ran
    (rows_yield c.args.count c.chunks_exact.result ws c.chunks_exact.ensures.size c.chunks_exact.ensures.rest
    (simp (length-take, length-drop) (omega (arith, c.requires)))) (λ x b q k. search rules))
