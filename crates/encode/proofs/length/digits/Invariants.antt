-- The digits so far, and those of what is left, are all.
use Rattle.std.proofs.Common.{◌≡◌, ◌++◌}
use Rattle.codec.specs.Lengths.{digits}
use Rattle.encode.proofs.length.digits.Given as goal

abbrev pub invariant-loop-left : goal.invariant-loop-left
invariant-loop-left l = l.digits.items ++ digits l.left ≡ digits l.length

abbrev pub decreases-loop-left : goal.decreases-loop-left
decreases-loop-left l = l.left
