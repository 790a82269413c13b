-- So far: the value of the digits that were passed, which are the last ones.
use Rattle.std.proofs.Common.{◌≡◌, ◌-◌, length, drop}
use Rattle.codec.specs.Lengths.{value}
use Rattle.decode.proofs.length.value_of.Given as goal

abbrev pub invariant-loop-digit : goal.invariant-loop-digit
invariant-loop-digit l = record {
  next : (goal.iterator-loop-digit).can_next l.digit-iterator;
  finite : (goal.iterator-loop-digit).is_finite l.digit-iterator;
  passed : l.value ≡ value (drop (length l.digits - length l.yielded) l.digits);
}
