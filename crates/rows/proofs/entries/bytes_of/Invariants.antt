use Rattle.std.proofs.Common.{◌≡◌, ◌-◌, ◌*◌, length, take, drop, replicate}
use Rattle.std.specs.List.{flat_map}
use Rattle.blocks.specs.Words.{bytes_of}
use Rattle.rows.proofs.entries.bytes_of.Given as goal

-- the bytes of the words so far, and zeros after them
abbrev pub invariant-loop-k : goal.invariant-loop-k
invariant-loop-k l =
    (length l.bytes ≡ 64) × (take (8 * l.k) l.bytes ≡ flat_map (bytes_of 8) (take l.k l.words))
    × (drop (8 * l.k) l.bytes ≡ replicate (64 - 8 * l.k) 0)
