-- THE PROGRAM, in whatever way states and trees are encoded: what it answers, does to the disk and keeps in memory, and how
-- it starts. Definitions only.
--
-- The disk: block 0 is the superblock, then come the data blocks, then two checkpoint areas. Only the last synced tree is on
-- the disk: a checkpoint of a tree in the live area, and a journal in the superblock of the changes made since then. A
-- tree sync puts the superblock with the journal as it is now; or, where the journal was too long, a checkpoint of the
-- newest tree in the other area and then a superblock that names that area. All that a superblock rests on is kept before
-- it is put, so whenever power goes, the superblock that is found names a whole tree.
use Rattle.std.specs.Prelude.{ℕ, suc, ◌+◌, Bool, true, false, cond, not, ◌&&◌, List, [], ◌∷◌, ◌++◌, length, get_or, replicate, ◌==◌, slice_index_or, slice_set}
use Rattle.model.specs.Tree.{first_of, Entry, Tree, new_tree, body_of, entries, cells, named}
use Rattle.model.specs.Calls.{Block, empty_block, Call, find, make_file, make_dir, remove, rename, list, size, read, write, resize}
use Rattle.model.specs.Calls.{sync_file, sync_tree, garbled, Answer, refused, done, number, entry, block, place}
use Rattle.model.specs.Refusals.{Limits, refusal}
use Rattle.model.specs.Fs.{no_entry}
use Rattle.model.specs.World.{Act, put_block, keep_all, Program}
use Rattle.machine.specs.State.{Item, Counts, counts_of, State, Kind, nothing, push_it, write_it, keep_it, sync_it, kind, more, next_tree}
use Rattle.machine.specs.State.{count_set, free, marked, both, own, synced_core, replay}

-- what a disk has: which area is live, the tree of the checkpoint there, and the journal
pub record Root : Type 0 where
  pub live : Bool
  pub base : Tree
  pub journal : List Item

-- how states, trees and journals are written
pub record Encoding : Type 0 where
  pub encode : Limits → State → List ℕ
  pub decode : Limits → List ℕ → State
  pub fits : Limits → List Item → Bool  -- has the superblock room for such a journal?
  pub superblock : Limits → Bool → Counts → List Item → Block
  pub checkpoint : Limits → Tree → List Block
  pub area_size : Limits → ℕ
  pub load : Limits → List Block → Root

-- where an area begins
unfoldable pub area_start : Encoding → Limits → Bool → ℕ
area_start k l false = suc l.room
area_start k l true = suc l.room + k.area_size l

-- ACTS. A row of blocks put from one on; zeros put on data blocks, which begin at block 1
unfoldable pub puts : ℕ → List Block → List Act
puts k [] = []
puts k (b ∷ bs) = put_block k b ∷ puts (suc k) bs

unfoldable pub zeros : List ℕ → List Act
zeros [] = []
zeros (k ∷ ks) = put_block (suc k) empty_block ∷ zeros ks

-- the blocks of a tree that were never written: they are to read as zeros after power was lost, too
abbrev pub unwritten : Limits → List Bool → Tree → List ℕ
unwritten l fresh t = both (own l t) fresh 0

-- all that was put is kept, and only then the superblock is put, and kept
abbrev pub committed : Block → List Act
committed b = keep_all ∷ put_block 0 b ∷ keep_all ∷ []

abbrev pub by_journal : Encoding → Limits → Bool → Counts → List Item → List Bool → Tree → List Act
by_journal k l live base js fresh t = zeros (unwritten l fresh t) ++ committed (k.superblock l live base js)

abbrev pub by_checkpoint : Encoding → Limits → Bool → List Bool → Tree → List Act
by_checkpoint k l other fresh t =
    (zeros (unwritten l fresh t) ++ puts (area_start k l other) (k.checkpoint l t))
    ++ committed (k.superblock l other (counts_of t) [])

unfoldable pub acts_by : Encoding → Limits → State → Kind → List Act
acts_by k l st nothing = []
acts_by k l st push_it = []
acts_by k l st (write_it x b) = put_block (suc x) b ∷ []
acts_by k l st (keep_it xs) = keep_all ∷ []
acts_by k l st sync_it =
    cond (st.older == 0) []
    (cond st.over (by_checkpoint k l (not st.live) st.fresh st.tree)
    (by_journal k l st.live st.base st.journal st.fresh st.tree))

-- ANSWERS, from the tree, the fresh bits and what the disk's blocks have
unfoldable pub reply_by : Tree → List Bool → List Block → Call → Answer
reply_by t fresh bs (find d n) = number (first_of (named t d n))
reply_by t fresh bs (make_file d n) = number t.next
reply_by t fresh bs (make_dir d n) = number t.next
reply_by t fresh bs (remove d n) = done
reply_by t fresh bs (rename d n e m) = done
reply_by t fresh bs (list d k) = let e : Entry = get_or (entries (body_of t d)) k no_entry in entry e.name e.id
reply_by t fresh bs (size i) = number (length (cells (body_of t i)))
reply_by t fresh bs (read i o) =
    let x : ℕ = get_or (cells (body_of t i)) o 0 in
    block (cond (slice_index_or fresh x false) empty_block (slice_index_or bs (suc x) empty_block))
reply_by t fresh bs (write i o b) = done
reply_by t fresh bs (resize i n) = done
reply_by t fresh bs (sync_file i) = done
reply_by t fresh bs sync_tree = done
reply_by t fresh bs (garbled n) = done

-- MEMORY AFTERWARDS. A tree that is synced
abbrev pub rested : Limits → Bool → Counts → List Item → Tree → State
rested l live base js t = record
    { tree = t; older = 0; held = own l t; fresh = replicate l.room false; live = live; base = base; journal = js; over = false }

-- the journal with one item more, if that has a place
abbrev pub longer : State → Call → List Item
longer st c = st.journal ++ (record { first = (st.older == 0); call = c } ∷ [])

abbrev pub has_place : Encoding → Limits → State → Call → Bool
has_place k l st c = not st.over && k.fits l (longer st c)

unfoldable pub next_by : Encoding → Limits → State → Call → Kind → State
next_by k l st c nothing = st
next_by k l st c push_it =
    let new : List ℕ = free (more st.tree c) st.held 0 in
    record {
      tree = next_tree st.tree new c;
      older = suc st.older;
      held = marked new st.held;
      fresh = marked new st.fresh;
      live = st.live;
      base = st.base;
      journal = cond (has_place k l st c) (longer st c) st.journal;
      over = not (has_place k l st c);
    }
next_by k l st c (write_it x b) = record {
  tree = st.tree;
  older = st.older;
  held = st.held;
  fresh = slice_set st.fresh x false;
  live = st.live;
  base = st.base;
  journal = st.journal;
  over = st.over;
}
next_by k l st c (keep_it xs) = st
next_by k l st c sync_it =
    cond (st.older == 0) st
    (cond st.over (rested l (not st.live) (counts_of st.tree) [] st.tree)
    (rested l st.live st.base st.journal st.tree))

-- A CALL
abbrev pub refusal_of : Limits → State → Call → ℕ
refusal_of l st c = refusal l st.tree st.older (count_set st.held) c

abbrev pub state_says : Limits → State → List Block → Call → Answer
state_says l st bs c =
    cond (refusal_of l st c == 0) (reply_by st.tree st.fresh bs c) (refused (refusal_of l st c) (place c))

abbrev pub state_does : Encoding → Limits → State → Call → List Act
state_does k l st c = cond (refusal_of l st c == 0) (acts_by k l st (kind st.tree c)) []

abbrev pub state_next : Encoding → Limits → State → Call → State
state_next k l st c = cond (refusal_of l st c == 0) (next_by k l st c (kind st.tree c)) st

-- A START: the checkpoint with the journal done again. Nothing is to be mended
abbrev pub woken : Limits → Root → State
woken l r =
    rested l r.live (counts_of r.base) r.journal (replay l (synced_core l r.base) r.journal).tree

abbrev pub wakes : Encoding → Limits → List Block → State
wakes k l bs = woken l (k.load l bs)

-- A NEW DISK: an empty directory's checkpoint, and a superblock that names it
abbrev pub making_acts : Encoding → Limits → List Act
making_acts k l =
    puts (area_start k l false) (k.checkpoint l new_tree)
    ++ (put_block 0 (k.superblock l false (counts_of new_tree) []) ∷ keep_all ∷ [])

abbrev pub program : Encoding → Program
program k = record {
  makes = making_acts k;
  mends = λ l bs. [];
  starts = λ l bs. k.encode l (wakes k l bs);
  says = λ l mem bs c. state_says l (k.decode l mem) bs c;
  does = λ l mem bs c. state_does k l (k.decode l mem) c;
  keeps = λ l mem bs c. k.encode l (state_next k l (k.decode l mem) c);
}
