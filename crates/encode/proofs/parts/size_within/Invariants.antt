-- What is left of the room, and the parts that were passed, are the room.
use Rattle.std.proofs.Common.{◌≡◌, ◌+◌, length, take, flat_map}
use Rattle.encode.proofs.parts.size_within.Given as goal

abbrev pub invariant-loop-part : goal.invariant-loop-part
invariant-loop-part l = l.left + length (flat_map (λ part. part.now) (take l.part-index l.parts)) ≡ l.room
