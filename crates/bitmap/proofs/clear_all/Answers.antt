-- Words that are zeros have no bit set.
use Rattle.std.proofs.Common.{length, ap, ◌∙◌}
use Rattle.blocks.specs.Bits.{bits_of}
use Rattle.bitmap.proofs.Maps.{zero_bits}
use Rattle.bitmap.proofs.clear_all.Goals as goal

pub returns-clause-bits : goal.returns-clause-bits
returns-clause-bits c = ap bits_of (c.fill.ensures.after (λ y e. e)) ∙ zero_bits (length c.args.map.now)
