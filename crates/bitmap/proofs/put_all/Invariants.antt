use Rattle.std.proofs.Common.{◌≡◌, drop}
use Rattle.blocks.specs.Bits.{bits_of}
use Rattle.bitmap.specs.Bitmap.{put_each}
use Rattle.bitmap.proofs.put_all.Given as goal

-- what is left to put gives the answer
abbrev pub invariant-loop-k : goal.invariant-loop-k
invariant-loop-k l = put_each l.on (drop l.k-index l.row) (bits_of l.map) ≡ put_each l.on l.row (bits_of l.initial.map)
