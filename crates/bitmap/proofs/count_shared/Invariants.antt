use Rattle.std.proofs.Common.{◌≡◌, ◌+◌, ◌*◌, ◌≤◌, length}
use Rattle.bitmap.proofs.Shared.{shared_from}
use Rattle.bitmap.proofs.count_shared.Given as goal

abbrev pub invariant-loop-i : goal.invariant-loop-i
invariant-loop-i l =
    (l.shared + length (shared_from l.a l.b l.i) ≡ length (shared_from l.a l.b 0)) × (l.shared ≤ 64 * l.i)
