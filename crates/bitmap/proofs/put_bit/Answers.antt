-- One bit of a word, set or cleared.
use Rattle.std.proofs.Common.{set, sym, ap, ◌∙◌}
use Rattle.blocks.specs.Bits.{bits_of}
use Rattle.bitmap.proofs.Maps.{set_at, clear_at}
use Rattle.bitmap.proofs.put_bit.Goals as goal

pub returns-then-on : goal.returns-then-on
returns-then-on c =
    set_at c.args.map.now c.args.k c.requires ∙ ap (set (bits_of c.args.map.now) c.args.k) (sym c.if-on.true)

pub returns-else-on : goal.returns-else-on
returns-else-on c =
    clear_at c.args.map.now c.args.k c.requires ∙ ap (set (bits_of c.args.map.now) c.args.k) (sym c.if-on.false)
