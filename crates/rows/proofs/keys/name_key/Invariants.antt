use Rattle.std.proofs.Common.{◌≡◌, ◌*◌, ◌≤◌, drop}
use Rattle.rows.proofs.NameWords.{key_so_far}
use Rattle.rows.proofs.keys.name_key.Given as goal

-- the words so far, and the bytes that are left
abbrev pub invariant-loop-k : goal.invariant-loop-k
invariant-loop-k l =
    (l.key ≡ key_so_far l.k-iterator.count l.name) × (l.k-iterator.iter.rest.now ≡ drop (8 * l.k-iterator.count) l.name)
    × (l.k-iterator.iter.size ≡ 8) × (l.k-iterator.count ≤ 8)
