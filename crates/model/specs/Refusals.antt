-- WHY A CALL IS REFUSED: the first reason of a fixed list that applies, or 0 where none does. Definitions only.
--
--   1  bytes that are no call
--   2  a name of 0 or more than 64 bytes, other than 4,096 bytes to write, more than 65,536 places, or a call that is not
--      among those that can be done
--   3  no such directory
--   4  no such file
--   5  no such name, or no such entry of a directory
--   6  a name that is there, of a node to be made
--   7  a directory that is not empty, to be removed or replaced; a directory that would be in itself; a file in place of a
--      directory, or a directory in place of a file
--   8  no room: as many nodes as may be, no id left, or more cells held than may be
--   9  as many older trees as may be
--  10  no such place in a file
--
-- Of a rename, 3 is asked of the first directory and then of the second, then 5, then 7. Told 8 or 9, one syncs the tree
-- and asks again.
use Rattle.std.specs.Prelude.{Bool, cond, ◌&&◌, ◌||◌, List, [], ◌∷◌, ℕ, suc, ◌+◌, ◌*◌, ◌-◌, ltb, leb, eqb, length}
use Rattle.model.specs.Tree.{some_of, Name, Tree, body_of, is_dir, is_file, entries, cells, named, holds}
use Rattle.model.specs.Calls.{Call, find, make_file, make_dir, remove, rename, list, size, read, write, resize, sync_file, sync_tree}
use Rattle.model.specs.Calls.{garbled, call_number, good_fields}

-- what is fixed at opening
pub record Limits : Type 0 where
  pub calls_can : ℕ → Bool  -- which calls can be done, by number
  pub room : ℕ  -- how many cells may be held
  pub nodes_most : ℕ  -- how many nodes the newest tree may have
  pub pending : ℕ  -- how many older trees there may be

-- one more older tree, or 9
abbrev pub may_change : Limits → ℕ → ℕ
may_change l older = cond (ltb older l.pending) 0 9

-- where there is such a directory, what follows; else 3
abbrev pub a_dir : Tree → ℕ → ℕ → ℕ
a_dir t d k = cond (is_dir (body_of t d)) k 3

-- where there is such a file, what follows; else 4
abbrev pub a_file : Tree → ℕ → ℕ → ℕ
a_file t i k = cond (is_file (body_of t i)) k 4

-- ids end at 2^32 - 2
abbrev pub making : Limits → Tree → ℕ → ℕ → Name → ℕ
making l t older d n =
    a_dir t d (cond (some_of (named t d n)) 6
    (cond (ltb (length t.nodes) l.nodes_most && ltb t.next 4294967295) (may_change l older) 8))

-- of the node that the name has, if any
unfoldable pub removing : Limits → Tree → ℕ → List ℕ → ℕ
removing l t older [] = 5
removing l t older (i ∷ is) = cond (some_of (entries (body_of t i))) 7 (may_change l older)

-- node i to stand in place of the node that has the new name, if any; in its own place, nothing changes
unfoldable pub in_place : Limits → Tree → ℕ → ℕ → List ℕ → ℕ
in_place l t older i [] = may_change l older
in_place l t older i (j ∷ js) =
    cond (eqb i j) 0
    (cond ((is_dir (body_of t i) && is_dir (body_of t j)) || (is_file (body_of t i) && is_file (body_of t j)))
    (cond (some_of (entries (body_of t j))) 7 (may_change l older))
    7)

-- of the node that has the old name, if any. So many steps are more than a tree's nodes can ask for
unfoldable pub renaming : Limits → Tree → ℕ → ℕ → Name → List ℕ → ℕ
renaming l t older e m [] = 5
renaming l t older e m (i ∷ is) =
    cond (holds (2 * length t.nodes * suc (length t.nodes)) t i e) 7 (in_place l t older i (named t e m))

-- a file of k places to have n, where so many cells are held
abbrev pub resizing : Limits → ℕ → ℕ → ℕ → ℕ → ℕ
resizing l older held k n = cond (eqb n k) 0 (cond (leb (held + (n - k)) l.room) (may_change l older) 8)

-- by the newest tree, how many older ones there are, and how many cells are held
unfoldable pub refusal_by : Limits → Tree → ℕ → ℕ → Call → ℕ
refusal_by l t older held (find d n) = a_dir t d (cond (some_of (named t d n)) 0 5)
refusal_by l t older held (make_file d n) = making l t older d n
refusal_by l t older held (make_dir d n) = making l t older d n
refusal_by l t older held (remove d n) = a_dir t d (removing l t older (named t d n))
refusal_by l t older held (rename d n e m) = a_dir t d (a_dir t e (renaming l t older e m (named t d n)))
refusal_by l t older held (list d k) = a_dir t d (cond (ltb k (length (entries (body_of t d)))) 0 5)
refusal_by l t older held (size i) = a_file t i 0
refusal_by l t older held (read i o) = a_file t i (cond (ltb o (length (cells (body_of t i)))) 0 10)
refusal_by l t older held (write i o b) = a_file t i (cond (ltb o (length (cells (body_of t i)))) 0 10)
refusal_by l t older held (resize i n) = a_file t i (resizing l older held (length (cells (body_of t i))) n)
refusal_by l t older held (sync_file i) = a_file t i 0
refusal_by l t older held sync_tree = 0
refusal_by l t older held (garbled n) = 1

-- 1 and 2 come first
abbrev pub refusal : Limits → Tree → ℕ → ℕ → Call → ℕ
refusal l t older held c =
    cond (eqb (call_number c) 255) 1
    (cond (l.calls_can (call_number c) && good_fields c) (refusal_by l t older held c) 2)
