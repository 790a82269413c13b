use Rattle.std.proofs.Common.{◌∙◌}
use Rattle.blocks.specs.Bits.{bits_of}
use Rattle.bitmap.proofs.Each.{each_marked}
use Rattle.bitmap.proofs.mark_all.Goals as goal

pub returns : goal.returns
returns c = c.put_all.ensures ∙ each_marked c.args.row.now (bits_of c.args.map.now)
