-- The small tree of the tests, and its limits. Definitions only.
use Rattle.std.specs.Prelude.{ℕ, [], ◌∷◌, Option, Some, None}
use Rattle.calls.specs.declared.Refusal.{Refusal}
use Rattle.calls.specs.Meaning.{refusal_number}
use Rattle.model.specs.Promise.{all}
use Rattle.model.specs.Tree.{Entry, Body, dir, file, Node, Tree}
use Rattle.model.specs.Refusals.{Limits}

-- a name of one byte, given to an id
abbrev pub entry : ℕ → ℕ → Entry
entry byte id = record { name = byte ∷ []; id = id }

abbrev pub node : ℕ → Body → Node
node id body = record { id = id; body = body }

-- "a" of two places, and "d" with "b" in it
abbrev pub small_tree : Tree
small_tree = record {
  nodes = node 0 (dir (entry 97 1 ∷ entry 100 2 ∷ [])) ∷ node 1 (file (3 ∷ 5 ∷ [])) ∷ node 2 (dir (entry 98 3 ∷ [])) ∷
      node 3 (file ([])) ∷ [];
  next = 4;
}

abbrev pub limits : Limits
limits = record { calls_can = all; room = 6; nodes_most = 4; pending = 2 }

-- the number of a reason, or 0 where there is none
abbrev pub reason_number : Option Refusal → ℕ
reason_number None = 0
reason_number (Some e) = refusal_number e
