-- Each number of the row is one of the map's bits, and a turn puts one bit of those that are left.
use Rattle.std.proofs.Common.{◌+◌, ◌*◌, ◌<◌, length, drop, sym, ap, ◌∙◌, arith}
use Rattle.std.proofs.ByRecursion.{All-get_or}
use Rattle.std.proofs.lemmas.List.{at_drop_more, at_drop_all}
use Rattle.blocks.specs.Bits.{bits_of}
use Rattle.bitmap.specs.Bitmap.{put_each}
use Rattle.bitmap.proofs.put_all.Goals as goal

pub put_bit-requires : goal.put_bit-requires
put_bit-requires c =
    let h = All-get_or (λ x. x < 64 * length c.args.map.now) c.args.row.now c.loop-k.k-index 0
    c.loop-k-test.true c.requires in
    omega arith

pub loop-k-preserved : goal.loop-k-preserved
unfolding put_each
loop-k-preserved c =
    ap (put_each c.args.on (drop (c.loop-k.k-index + 1) c.args.row.now)) c.put_bit.ensures
    ∙ (sym (at_drop_more (λ t. put_each c.args.on t (bits_of c.loop-k.map)) c.args.row.now c.loop-k.k-index 0
    c.loop-k-test.true)
    ∙ c.loop-k.invariant)

pub returns : goal.returns
unfolding put_each
returns c =
    sym (at_drop_all (λ t. put_each c.args.on t (bits_of c.loop-k.map)) c.args.row.now c.loop-k.k-index c.loop-k-test.false)
    ∙ c.loop-k.invariant
