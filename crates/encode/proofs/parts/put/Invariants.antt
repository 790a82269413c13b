-- The parts that were passed stand over the front, and are so many bytes.
use Rattle.std.proofs.Common.{◌≡◌, length, take, flat_map}
use Rattle.encode.specs.Put.{onto}
use Rattle.encode.proofs.parts.put.Given as goal

abbrev pub invariant-loop-part : goal.invariant-loop-part
invariant-loop-part l = record {
  written : l.out ≡ onto (flat_map (λ part. part.now) (take l.part-index l.parts)) l.initial.out;
  end : l.at ≡ length (flat_map (λ part. part.now) (take l.part-index l.parts));
}
