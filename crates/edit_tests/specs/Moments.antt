-- The trees of the afternoon, one for each moment. Definitions only.
use Rattle.std.specs.Prelude.{ℕ, List, [], ◌∷◌}
use Rattle.model.specs.Tree.{Entry, Body, dir, file, Node, Tree}

-- a name of one byte, given to an id
abbrev pub entry : ℕ → ℕ → Entry
entry byte id = record { name = byte ∷ []; id = id }

abbrev pub node : ℕ → Body → Node
node id body = record { id = id; body = body }

abbrev pub tree : ℕ → List Node → Tree
tree next ts = record { nodes = ts; next = next }

-- the first directory alone
abbrev pub t_new : Tree
t_new = tree 1 (node 0 (dir ([])) ∷ [])

-- it has a file, "a"
abbrev pub t_file : Tree
t_file = tree 2 (node 0 (dir (entry 97 1 ∷ [])) ∷ node 1 (file ([])) ∷ [])

-- it has a directory, "d", too
abbrev pub t_dir : Tree
t_dir = tree 3 (node 0 (dir (entry 97 1 ∷ entry 100 2 ∷ [])) ∷ node 1 (file ([])) ∷ node 2 (dir ([])) ∷ [])

-- in "d" is a file, "b"
abbrev pub t_inner : Tree
t_inner =
    tree 4 (node 0 (dir (entry 97 1 ∷ entry 100 2 ∷ [])) ∷ node 1 (file ([])) ∷
    node 2 (dir (entry 98 3 ∷ [])) ∷ node 3 (file ([])) ∷ [])

-- "a" has two cells
abbrev pub t_long : Tree
t_long =
    tree 4 (node 0 (dir (entry 97 1 ∷ entry 100 2 ∷ [])) ∷ node 1 (file (5 ∷ 6 ∷ [])) ∷
    node 2 (dir (entry 98 3 ∷ [])) ∷ node 3 (file ([])) ∷ [])

-- "b" has three, after those
abbrev pub t_both : Tree
t_both =
    tree 4 (node 0 (dir (entry 97 1 ∷ entry 100 2 ∷ [])) ∷ node 1 (file (5 ∷ 6 ∷ [])) ∷
    node 2 (dir (entry 98 3 ∷ [])) ∷ node 3 (file (7 ∷ 8 ∷ 9 ∷ [])) ∷ [])

-- "a" has its first cell only
abbrev pub t_short : Tree
t_short =
    tree 4 (node 0 (dir (entry 97 1 ∷ entry 100 2 ∷ [])) ∷ node 1 (file (5 ∷ [])) ∷
    node 2 (dir (entry 98 3 ∷ [])) ∷ node 3 (file (7 ∷ 8 ∷ 9 ∷ [])) ∷ [])

-- "a" is removed
abbrev pub t_without : Tree
t_without =
    tree 4 (node 0 (dir (entry 100 2 ∷ [])) ∷
    node 2 (dir (entry 98 3 ∷ [])) ∷ node 3 (file (7 ∷ 8 ∷ 9 ∷ [])) ∷ [])
