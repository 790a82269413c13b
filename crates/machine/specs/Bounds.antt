-- HOW MUCH: acts of each call by kind, words of memory, blocks of the disk, changes between two checkpoints; and that what
-- is written is read back. Each is a type whose proof is owed. Definitions only.
use Rattle.std.specs.Prelude.{◌≡◌, ℕ, suc, ◌+◌, ◌*◌, ◌<◌, ◌≤◌, true, false, cond, List, [], ◌∷◌, length, ◌==◌, slice_index_or}
use Rattle.blocks.specs.Blocks.{blocks_count}
use Rattle.model.specs.Tree.{Tree}
use Rattle.model.specs.Calls.{Block, empty_block, Call, find, make_file, make_dir, remove, rename, list, size, read, write, resize}
use Rattle.model.specs.Calls.{sync_file, sync_tree, garbled}
use Rattle.model.specs.Refusals.{Limits}
use Rattle.model.specs.World.{Act, put_block, keep_all, blocks_for}
use Rattle.model.specs.Promise.{memory_for}
use Rattle.machine.specs.State.{Sized, Item, Counts, counts_of, State, synced_core, replay}
use Rattle.machine.specs.Program.{Root, area_start, unwritten, refusal_of}
use Rattle.machine.specs.Fits.{Fits, ok_journal, Carries}
use Rattle.machine.specs.Layout.{bitmap_size, at_fresh, checkpoint_size, state_from, layout, volume_program}

-- ACTS by kind
pub record Cost : Type 0 where
  pub puts : ℕ
  pub keeps : ℕ

abbrev pub none : Cost
none = record { puts = 0; keeps = 0 }

unfoldable pub counted : List Act → Cost
counted [] = none
counted (put_block k b ∷ xs) = record { puts = suc (counted xs).puts; keeps = (counted xs).keeps }
counted (keep_all ∷ xs) = record { puts = (counted xs).puts; keeps = suc (counted xs).keeps }

-- how many blocks a checkpoint has
abbrev pub checkpoint_length : Counts → ℕ
checkpoint_length c = blocks_count (4 * c.nodes) + (blocks_count (16 * c.entries) + blocks_count c.cells)

-- a tree sync: nothing where nothing is older; else zeros for the newest tree's blocks that were never written, the
-- checkpoint's blocks where the journal is over, the superblock, and two keeps
abbrev pub sync_cost : Limits → State → Cost
sync_cost l st =
    cond (st.older == 0) none
    (record {
      puts = length (unwritten l st.fresh st.tree) + cond st.over (checkpoint_length (counts_of st.tree)) 0 + 1;
      keeps = 2;
    })

-- a call that is not refused
unfoldable pub call_cost : Limits → State → Call → Cost
call_cost l st (find d n) = none
call_cost l st (make_file d n) = none
call_cost l st (make_dir d n) = none
call_cost l st (remove d n) = none
call_cost l st (rename d n e m) = none
call_cost l st (list d k) = none
call_cost l st (size i) = none
call_cost l st (read i o) = none
call_cost l st (write i o b) = record { puts = 1; keeps = 0 }
call_cost l st (resize i n) = none
call_cost l st (sync_file i) = record { puts = 0; keeps = 1 }
call_cost l st sync_tree = sync_cost l st
call_cost l st (garbled n) = none

-- 1. The acts of each call are exactly so many, whatever memory and the disk have.
abbrev pub ActsCounted : Type 0
ActsCounted =
    (l : Limits) (mem : List ℕ) (bs : List Block) (c : Call) →
    let st : State = state_from l mem in
    counted (volume_program.does l mem bs c) ≡ cond (refusal_of l st c == 0) (call_cost l st c) none

-- 2. A journal of up to 22 changes always has a place in the superblock, however long their names are.
abbrev pub ChangesFit : Type 0
ChangesFit = (l : Limits) (js : List Item) → ok_journal js ≡ true → length js ≤ 22 → layout.fits l js ≡ true

-- 3. Data blocks and the two areas do not overlap, and fit on the disk, for all limits.
abbrev pub AreasApart : Type 0
AreasApart =
    (l : Limits) → Sized l →
    (l.room < area_start layout l false) × (area_start layout l false + checkpoint_size l ≤ area_start layout l true)
    × (area_start layout l true + checkpoint_size l ≤ blocks_for l)

-- and each checkpoint fits in its area
abbrev pub CheckpointsFit : Type 0
CheckpointsFit =
    (l : Limits) (t : Tree) → Sized l → Fits l t →
    (length (layout.checkpoint l t) ≡ checkpoint_length (counts_of t)) × (checkpoint_length (counts_of t) ≤ checkpoint_size l)

-- 4. Whatever journal is done again over a tree that fits, the tree that comes of it fits.
abbrev pub ReplayFits : Type 0
ReplayFits =
    (l : Limits) (t : Tree) (js : List Item) → Sized l → Fits l t → ok_journal js ≡ true →
    Fits l (replay l (synced_core l t) js).tree

-- 5. Memory has always the same number of words, and that is within its bound, for all limits.
abbrev pub memory_size : Limits → ℕ
memory_size l = at_fresh l + 2 * bitmap_size l

abbrev pub MemoryFits : Type 0
MemoryFits =
    (l : Limits) → Sized l →
    (memory_size l ≤ memory_for l) × ((st : State) → Carries layout.fits l st → length (layout.encode l st) ≡ memory_size l)

-- 6. Memory is read back.
abbrev pub Decodes : Type 0
Decodes = (l : Limits) (st : State) → Sized l → Carries layout.fits l st → layout.decode l (layout.encode l st) ≡ st

-- 7. A disk whose superblock and live area were written, whatever the rest of it has, is read back.
abbrev pub Loads : Type 0
Loads =
    (l : Limits) (bs : List Block) (r : Root) → Sized l → length bs ≡ blocks_for l → Fits l r.base →
    layout.fits l r.journal ≡ true → ok_journal r.journal ≡ true →
    slice_index_or bs 0 empty_block ≡ layout.superblock l r.live (counts_of r.base) r.journal →
    ((j : ℕ) → j < length (layout.checkpoint l r.base) →
    slice_index_or bs (area_start layout l r.live + j) empty_block ≡ slice_index_or (layout.checkpoint l r.base) j empty_block) →
    layout.load l bs ≡ r
