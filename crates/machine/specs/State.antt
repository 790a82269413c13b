-- THE STATE that the program's memory stands for, and how a call changes it: one step function, for calls and for the
-- journal's replay. Cells of the newest tree are data block numbers here. Definitions only.
use Rattle.std.specs.Prelude.{ℕ, zero, suc, ◌+◌, ◌-◌, ◌≤◌, Bool, true, false, cond, ◌&&◌, List, [], ◌∷◌, ◌++◌, map, length, take, ◌==◌, slice_index, slice_set}
use Rattle.model.specs.Tree.{some_of, first_of, Body, dir, file, Node, Tree, body_of, entries, cells, named, all_cells, put_body, made}
use Rattle.model.specs.Tree.{removed, moved}
use Rattle.model.specs.Calls.{Block, Call, find, make_file, make_dir, remove, rename, list, size, read, write, resize, sync_file}
use Rattle.model.specs.Calls.{sync_tree, garbled}
use Rattle.model.specs.Refusals.{Limits, refusal}
use Rattle.model.specs.Fs.{is_in}

-- limits that may be, whatever calls there are
abbrev pub Sized : Limits → Type 0
Sized l = (l.room ≤ 65536) × (1 ≤ l.nodes_most) × (l.nodes_most ≤ 4096) × (1 ≤ l.pending) × (l.pending ≤ 256)

-- an item of the journal: a changing call, and whether the tree was synced right before it
pub record Item : Type 0 where
  pub first : Bool
  pub call : Call

-- what the superblock says of the checkpoint: how much its tables have, and the next id
pub record Counts : Type 0 where
  pub next : ℕ
  pub nodes : ℕ
  pub entries : ℕ
  pub cells : ℕ

unfoldable pub entry_count : List Node → ℕ
entry_count [] = 0
entry_count (t ∷ ts) = length (entries (t.body ∷ [])) + entry_count ts

abbrev pub counts_of : Tree → Counts
counts_of t = record {
  next = t.next;
  nodes = length t.nodes;
  entries = entry_count t.nodes;
  cells =
      length (all_cells t.nodes);
}

pub record State : Type 0 where
  pub tree : Tree  -- the newest tree
  pub older : ℕ  -- how many older ones there are
  pub held : List Bool  -- which data blocks are held
  pub fresh : List Bool  -- which were taken since the last tree sync and never written
  pub live : Bool  -- which checkpoint area is live
  pub base : Counts  -- what the checkpoint there has
  pub journal : List Item  -- the changes since that checkpoint
  pub over : Bool  -- whether one more had no place in the journal

-- CELLS BY OTHER NUMBERS: the model's cells and the program's data blocks differ by such a renaming
unfoldable pub ren_body : (ℕ → ℕ) → Body → Body
ren_body f (dir es) = dir es
ren_body f (file cs) = file (map f cs)

unfoldable pub ren_nodes : (ℕ → ℕ) → List Node → List Node
ren_nodes f [] = []
ren_nodes f (t ∷ ts) = record { id = t.id; body = ren_body f t.body } ∷ ren_nodes f ts

abbrev pub ren : (ℕ → ℕ) → Tree → Tree
ren f t = record { nodes = ren_nodes f t.nodes; next = t.next }

-- WHAT KIND OF CHANGE a call is, where it is not refused: none, a new tree, a cell written, cells kept, the tree synced
pub data Kind : Type 0 where
  nothing : Kind
  push_it : Kind
  write_it : ℕ → Block → Kind
  keep_it : List ℕ → Kind
  sync_it : Kind

unfoldable pub kind : Tree → Call → Kind
kind t (find d n) = nothing
kind t (make_file d n) = push_it
kind t (make_dir d n) = push_it
kind t (remove d n) = push_it
kind t (rename d n e m) =
    cond (some_of (named t e m) && first_of (named t d n) == first_of (named t e m)) nothing push_it
kind t (list d k) = nothing
kind t (size i) = nothing
kind t (read i o) = nothing
kind t (write i o b) = write_it (slice_index (cells (body_of t i)) o) b
kind t (resize i n) = cond (n == length (cells (body_of t i))) nothing push_it
kind t (sync_file i) = keep_it (cells (body_of t i))
kind t sync_tree = sync_it
kind t (garbled n) = nothing

unfoldable pub is_push : Kind → Bool
is_push nothing = false
is_push push_it = true
is_push (write_it x b) = false
is_push (keep_it xs) = false
is_push sync_it = false

-- how many new cells a call wants
unfoldable pub more : Tree → Call → ℕ
more t (find d n) = 0
more t (make_file d n) = 0
more t (make_dir d n) = 0
more t (remove d n) = 0
more t (rename d n e m) = 0
more t (list d k) = 0
more t (size i) = 0
more t (read i o) = 0
more t (write i o b) = 0
more t (resize i n) = n - length (cells (body_of t i))
more t (sync_file i) = 0
more t sync_tree = 0
more t (garbled n) = 0

-- the tree after a call that is a new tree, with those new cells
unfoldable pub next_tree : Tree → List ℕ → Call → Tree
next_tree t new (find d n) = t
next_tree t new (make_file d n) = made d n (file []) t
next_tree t new (make_dir d n) = made d n (dir []) t
next_tree t new (remove d n) = removed d n (first_of (named t d n)) t
next_tree t new (rename d n e m) = moved d n e m (first_of (named t d n)) t
next_tree t new (list d k) = t
next_tree t new (size i) = t
next_tree t new (read i o) = t
next_tree t new (write i o b) = t
next_tree t new (resize i n) = put_body i (file (take n (cells (body_of t i)) ++ new)) t
next_tree t new (sync_file i) = t
next_tree t new sync_tree = t
next_tree t new (garbled n) = t

-- DATA BLOCKS as bits: which of so many, from k on, are in a list; how many bits are set; the first n that are clear; some
-- more set; and those that are set in both of two rows
unfoldable pub marks : ℕ → ℕ → List ℕ → List Bool
marks zero k bs = []
marks (suc n) k bs = is_in k bs ∷ marks n (suc k) bs

unfoldable pub count_set : List Bool → ℕ
count_set [] = 0
count_set (b ∷ bs) = cond b 1 0 + count_set bs

unfoldable pub free : ℕ → List Bool → ℕ → List ℕ
free zero bs k = []
free (suc n) [] k = []
free (suc n) (true ∷ bs) k = free (suc n) bs (suc k)
free (suc n) (false ∷ bs) k = k ∷ free n bs (suc k)

unfoldable pub marked : List ℕ → List Bool → List Bool
marked [] bs = bs
marked (k ∷ ks) bs = marked ks (slice_set bs k true)

unfoldable pub both : List Bool → List Bool → ℕ → List ℕ
both [] bs k = []
both (a ∷ xs) [] k = []
both (a ∷ xs) (b ∷ bs) k = cond (a && b) (k ∷ both xs bs (suc k)) (both xs bs (suc k))

-- the data blocks of a tree
abbrev pub own : Limits → Tree → List Bool
own l t = marks l.room 0 (all_cells t.nodes)

-- THE STEP. What it works on: a tree, how many older ones there are, and which data blocks are held. New cells are the
-- lowest free data blocks, so that the same calls give the same tree again.
pub record Core : Type 0 where
  pub tree : Tree
  pub older : ℕ
  pub held : List Bool

abbrev pub step : Core → Call → Core
step x c =
    let new : List ℕ = free (more x.tree c) x.held 0 in
    record { tree = next_tree x.tree new c; older = suc x.older; held = marked new x.held }

-- REPLAY. A call of the journal is done again only where it would not be refused and changes the tree, so that replay needs
-- no trust in what it reads
abbrev pub redo : Limits → Core → Call → Core
redo l x c = cond (refusal l x.tree x.older (count_set x.held) c == 0 && is_push (kind x.tree c)) (step x c) x

-- a tree that was synced: nothing is older, and its own blocks are held
abbrev pub synced_core : Limits → Tree → Core
synced_core l t = record { tree = t; older = 0; held = own l t }

abbrev pub ready : Limits → Bool → Core → Core
ready l first x = cond first (synced_core l x.tree) x

unfoldable pub replay : Limits → Core → List Item → Core
replay l x [] = x
replay l x (i ∷ is) = replay l (redo l (ready l i.first x) i.call) is
