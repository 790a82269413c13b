use Rattle.std.proofs.Common.{◌++◌, sym, ap, ◌∙◌, append_assoc, rules}
use Rattle.std.proofs.Output.{has_written_append}
use Rattle.words.specs.Printed.{print_row}
use Rattle.words.proofs.printing.WordDisplay.fmt.Goals as goal

pub loop-row-preserved : goal.loop-row-preserved
loop-row-preserved g c = λ plain.
    let so_far = c.loop-row.invariant plain in (
      so_far.0 ++ print_row c.in-Some.row.byte c.in-Some.row.times,
      has_written_append _ _ _ _ _ _ so_far.1 (search rules),
      append_assoc so_far.0 _ _ ∙ ap (λ t. so_far.0 ++ t) (sym c.in-Some.ensures.text) ∙ so_far.2,
    )
