-- Parts that are left only add to the size.
use Rattle.std.proofs.Common.{◌∙◌, arith}
use Rattle.encode.proofs.Puts.{fits, no_end}
use Rattle.encode.proofs.parts.size_within.Goals as goal

pub returns-in_err-left : goal.returns-in_err-left
returns-in_err-left c =
    let f = fits c.args.parts.now c.loop-part.part-index c.loop-part-test.true in
    c.from_residual.ensures ∙ no_end _ _ (omega (arith, f, c.in_err-left.ensures, c.loop-part.invariant))
