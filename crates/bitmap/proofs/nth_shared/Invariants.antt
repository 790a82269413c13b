use Rattle.std.proofs.Common.{◌≡◌, drop}
use Rattle.std.specs.List.{slice_get}
use Rattle.bitmap.proofs.Shared.{shared_from}
use Rattle.bitmap.proofs.nth_shared.Given as goal

-- the number that is looked for, among what is shared from the next word on
abbrev pub invariant-loop-i : goal.invariant-loop-i
invariant-loop-i l =
    (slice_get (shared_from l.a l.b l.i-iterator.count) l.left ≡ slice_get (shared_from l.a l.b 0) l.k)
    × (l.i-iterator.iter.a.rest.now ≡ drop l.i-iterator.count l.a) × (l.i-iterator.iter.b.rest.now ≡ drop l.i-iterator.count l.b)
