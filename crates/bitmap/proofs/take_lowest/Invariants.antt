use Rattle.std.proofs.Common.{◌≡◌, ◌+◌, ◌-◌, ◌*◌, ◌≤◌, ◌++◌, length, take}
use Rattle.blocks.specs.Bits.{bits_of}
use Rattle.machine.specs.State.{count_set, free, marked}
use Rattle.bitmap.specs.Bitmap.{lowest_clear}
use Rattle.bitmap.proofs.take_lowest.Given as goal

-- what is left to take gives the answer
abbrev pub invariant-loop-slot : goal.invariant-loop-slot
invariant-loop-slot l =
    (take l.slot-index l.out ++ free (length l.initial.out - l.slot-index) (bits_of l.map) 0 ≡
    free (length l.initial.out) (bits_of l.initial.map) 0)
    × (marked (free (length l.initial.out - l.slot-index) (bits_of l.map) 0) (bits_of l.map) ≡
    marked (free (length l.initial.out) (bits_of l.initial.map) 0) (bits_of l.initial.map))
    × (64 * l.from ≤ lowest_clear (bits_of l.map))
    × ((length l.initial.out - l.slot-index) + count_set (bits_of l.map) ≤ 64 * length l.initial.map)
