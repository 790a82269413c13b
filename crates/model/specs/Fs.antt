-- THE FILE SYSTEM: the newest tree, the older ones that power may bring back, and what each cell has; what a call answers
-- and changes; and what power may leave. Definitions only.
use Rattle.std.specs.Prelude.{Bool, false, cond, ◌&&◌, ◌||◌, List, [], ◌∷◌, ◌++◌, ℕ, zero, suc, ◌+◌, ◌-◌, eqb, length, get_or, set, take, replicate}
use Rattle.model.specs.Tree.{some_of, first_of, Entry, dir, file, Tree, new_tree, body_of, entries, cells, named, all_cells, put_body}
use Rattle.model.specs.Tree.{made, removed, moved}
use Rattle.model.specs.Calls.{Block, empty_block, Call, find, make_file, make_dir, remove, rename, list, size, read, write, resize}
use Rattle.model.specs.Calls.{sync_file, sync_tree, garbled, Answer, refused, done, number, entry, block, place}
use Rattle.model.specs.Refusals.{Limits, refusal}

-- A cell is one block of a file, whatever files and trees have it: what it has now, and what else it may have after power
-- is lost. (A block of the disk is such a cell, too.)
pub record Cell : Type 0 where
  pub now : Block
  pub maybe : List Block

-- the newest tree; the older trees, the last one first; and all cells, by number
pub record Fs : Type 0 where
  pub tree : Tree
  pub older : List Tree
  pub cells : List Cell

abbrev pub new_fs : Fs
new_fs = record { tree = new_tree; older = []; cells = [] }

abbrev pub empty_cell : Cell
empty_cell = record { now = empty_block; maybe = [] }

-- COUNTING. A cell is held if the newest tree or an older one has it; each is counted once
unfoldable pub is_in : ℕ → List ℕ → Bool
is_in c [] = false
is_in c (x ∷ xs) = eqb c x || is_in c xs

unfoldable pub cells_of : List Tree → List ℕ
cells_of [] = []
cells_of (t ∷ ts) = all_cells t.nodes ++ cells_of ts

unfoldable pub each_once : List ℕ → ℕ
each_once [] = 0
each_once (c ∷ cs) = cond (is_in c cs) 0 1 + each_once cs

abbrev pub held : Fs → ℕ
held s = each_once (cells_of (s.tree ∷ s.older))

-- why a call is refused, or 0
abbrev pub turned : Limits → Fs → Call → ℕ
turned l s c = refusal l s.tree (length s.older) (held s) c

-- CHANGING. A change of the tree: what was the newest is older from now on
abbrev pub push : Tree → Fs → Fs
push t s = record { tree = t; older = s.tree ∷ s.older; cells = s.cells }

-- so many numbers, from one on
unfoldable pub numbers : ℕ → ℕ → List ℕ
numbers zero k = []
numbers (suc n) k = k ∷ numbers n (suc k)

-- file i gets n places: what is beyond goes, and what is new are new cells, with zeros
abbrev pub resized : ℕ → ℕ → Fs → Fs
resized i n s =
    let cs : List ℕ = cells (body_of s.tree i) in
    let more : ℕ = n - length cs in
    record {
      tree = put_body i (file (take n cs ++ numbers more (length s.cells))) s.tree;
      older = s.tree ∷ s.older;
      cells = s.cells ++ replicate more empty_cell;
    }

-- a write is no change of the tree: it goes to the cell, in whichever trees that is
abbrev pub written : Cell → Block → Cell
written c b = record { now = b; maybe = c.now ∷ c.maybe }

abbrev pub kept : Cell → Cell
kept c = record { now = c.now; maybe = [] }

unfoldable pub kept_all : List ℕ → List Cell → List Cell
kept_all [] cs = cs
kept_all (k ∷ ks) cs = kept_all ks (set cs k (kept (get_or cs k empty_cell)))

abbrev pub with_cells : List Cell → Fs → Fs
with_cells cs s = record { tree = s.tree; older = s.older; cells = cs }

-- the cell at a place of a file
abbrev pub cell_at : Fs → ℕ → ℕ → ℕ
cell_at s i o = get_or (cells (body_of s.tree i)) o 0

-- what a call that is not refused changes
unfoldable pub changed : Fs → Call → Fs
changed s (find d n) = s
changed s (make_file d n) = push (made d n (file []) s.tree) s
changed s (make_dir d n) = push (made d n (dir []) s.tree) s
changed s (remove d n) = push (removed d n (first_of (named s.tree d n)) s.tree) s
changed s (rename d n e m) =
    let i : ℕ = first_of (named s.tree d n) in
    cond (some_of (named s.tree e m) && eqb i (first_of (named s.tree e m))) s (push (moved d n e m i s.tree) s)
changed s (list d k) = s
changed s (size i) = s
changed s (read i o) = s
changed s (write i o b) =
    with_cells (set s.cells (cell_at s i o) (written (get_or s.cells (cell_at s i o) empty_cell) b)) s
changed s (resize i n) = cond (eqb n (length (cells (body_of s.tree i)))) s (resized i n s)
changed s (sync_file i) = with_cells (kept_all (cells (body_of s.tree i)) s.cells) s
changed s sync_tree = record { tree = s.tree; older = []; cells = s.cells }
changed s (garbled n) = s

abbrev pub no_entry : Entry
no_entry = record { name = []; id = 0 }

-- what a call that is not refused answers
unfoldable pub reply : Fs → Call → Answer
reply s (find d n) = number (first_of (named s.tree d n))
reply s (make_file d n) = number s.tree.next
reply s (make_dir d n) = number s.tree.next
reply s (remove d n) = done
reply s (rename d n e m) = done
reply s (list d k) = let e : Entry = get_or (entries (body_of s.tree d)) k no_entry in entry e.name e.id
reply s (size i) = number (length (cells (body_of s.tree i)))
reply s (read i o) = block (get_or s.cells (cell_at s i o) empty_cell).now
reply s (write i o b) = done
reply s (resize i n) = done
reply s (sync_file i) = done
reply s sync_tree = done
reply s (garbled n) = done

-- what any call answers, and what is after it: what is refused changes nothing
abbrev pub answer : Limits → Fs → Call → Answer
answer l s c = cond (eqb (turned l s c) 0) (reply s c) (refused (turned l s c) (place c))

abbrev pub after : Limits → Fs → Call → Fs
after l s c = cond (eqb (turned l s c) 0) (changed s c) s

-- LOSING POWER. Each cell has one of what it has or may have, chosen for each by its number: 0 is what it has now, 1 what
-- it had before that, and so on; past the end, what it has now
unfoldable pub chosen : (ℕ → ℕ) → ℕ → List Cell → List Cell
chosen f k [] = []
chosen f k (c ∷ cs) = record { now = get_or (c.now ∷ c.maybe) (f k) c.now; maybe = [] } ∷ chosen f (suc k) cs

-- one of the trees stays, the newest or an older one, and nothing is older
abbrev pub lost : ℕ → (ℕ → ℕ) → Fs → Fs
lost n f s = record { tree = get_or (s.tree ∷ s.older) n s.tree; older = []; cells = chosen f 0 s.cells }
