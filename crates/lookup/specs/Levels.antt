-- How far down a tree goes from a node. Definitions only.
use Rattle.std.specs.Prelude.{◌≡◌, ℕ, zero, suc, ◌<◌, [], length, slice_index_or}
use Rattle.model.specs.Tree.{Tree, body_of, entries}
use Rattle.model.specs.Fs.{no_entry}

-- every way down from a node has at most so many levels
unfoldable pub Shallow : ℕ → Tree → ℕ → Type 0
Shallow zero t i = entries (body_of t i) ≡ []
Shallow (suc n) t i = (k : ℕ) → k < length (entries (body_of t i)) → Shallow n t (slice_index_or (entries (body_of t i)) k no_entry).id
