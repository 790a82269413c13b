-- Where the halves meet, the row has the id or no row has it.
use Rattle.std.proofs.Common.{◌≡◌, ◌<◌, true, false, sym, ◌∙◌, arith}
use Rattle.std.proofs.lemmas.Bool.{eqb-true, eqb-false, ltb-true}
use Rattle.tables.specs.Lookup.{row_id}
use Rattle.rows.proofs.Searches.{row_told}
use Rattle.rows.proofs.nodes.find_row.Goals as goal
use Rattle.rows.proofs.nodes.find_row.Goals.{then-low-rows, else-low-rows}

pub returns : goal.returns
returns c =
    let b = c.if-low-rows.then_some in
    let here : b ≡ true → (c.loop-low.low < c.args.rows) × (row_id c.args.nodes.now c.loop-low.low ≡ c.args.id) =
    λ t. elim c.if-low-rows.branch [
      | then-low-rows w ↦ (w.if-low-rows.true, eqb-true _ _ (sym w.then_some-is ∙ t))
      | else-low-rows w ↦ absurd (omega (arith, ltb-true _ _ (sym w.then_some-is ∙ t), w.if-low-rows.false))
    ] in
    let other : b ≡ false → c.loop-low.low < c.args.rows → row_id c.args.nodes.now c.loop-low.low ≡ c.args.id → ⊥ =
    λ f l e. elim c.if-low-rows.branch [
      | then-low-rows w ↦ eqb-false _ _ (sym w.then_some-is ∙ f) e
      | else-low-rows w ↦ absurd (omega (arith, l, w.if-low-rows.false))
    ] in
    c.then_some.ensures
    ∙ row_told c.args.id c.args.rows c.loop-low.low c.args.nodes.now b c.requires.ascend c.loop-low.invariant.2
    (λ i h l. c.loop-low.invariant.3 i (omega arith) l) here other
