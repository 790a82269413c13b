-- THE LAYOUT of memory and of the disk, with all its numbers, and the program over it. Definitions only.
--
-- Memory is these tables, one after another, each with the words in use first and zeros after them: a function of the state.
--
--   head         16      mark, limits (cells, nodes, older), nodes, entries and cells in use, next id, older trees, over
--   superblock   512     the block that the next sync puts, kept up to date
--   nodes        4 for each node that may be      sums   2 for each       entries   16 for each
--   cells        1 for each cell that may be held
--   held, fresh, own     bitmaps: data blocks that are held, that were never written, and that the newest tree has
--
-- The disk is the superblock, a data block for each cell that may be held, and two checkpoint areas. The superblock is 512
-- words: mark, limits (cells, nodes, older), which area is live (0 or 1), the checkpoint's next id and its counts of nodes,
-- entries and cells, how many words the journal has, 6 zeros; then the journal. A checkpoint is the words in use of the
-- tables of nodes, of entries and of cells, each from a block of its own, one right after the other.
use Rattle.std.specs.Prelude.{ℕ, suc, ◌+◌, ◌*◌, ◌/◌, Bool, cond, List, [], ◌∷◌, ◌++◌, length, take, drop, ◌==◌, nat_le, slice_index, slice_index_or}
use Rattle.std.specs.List.{flat_map}
use Rattle.blocks.specs.Words.{pad, part, bytes_of, chunks}
use Rattle.blocks.specs.Blocks.{blocks_count, table_blocks, loaded}
use Rattle.blocks.specs.Bits.{bits_of, bits_words}
use Rattle.model.specs.Tree.{Tree}
use Rattle.model.specs.Calls.{Block, empty_block}
use Rattle.model.specs.Refusals.{Limits}
use Rattle.model.specs.World.{Program}
use Rattle.machine.specs.State.{Item, Counts, counts_of, State, own}
use Rattle.machine.specs.Program.{Root, Encoding, program}
use Rattle.machine.specs.Tables.{node_words, sum_words, entry_words, cell_words, tree_from}
use Rattle.machine.specs.Journal.{bit_word, journal_words, journal_from}

-- by which memory and a disk of ours are known: the bytes "Fillett1"
abbrev pub mark : ℕ
mark = 3563601184116468038

-- SIZES in words
abbrev pub journal_room : ℕ
journal_room = 496

abbrev pub bitmap_size : Limits → ℕ
bitmap_size l = (l.room + 63) / 64

-- where each table begins
abbrev pub at_nodes : ℕ
at_nodes = 528

abbrev pub at_sums : Limits → ℕ
at_sums l = at_nodes + 4 * l.nodes_most

abbrev pub at_entries : Limits → ℕ
at_entries l = at_sums l + 2 * l.nodes_most

abbrev pub at_cells : Limits → ℕ
at_cells l = at_entries l + 16 * l.nodes_most

abbrev pub at_held : Limits → ℕ
at_held l = at_cells l + l.room

abbrev pub at_fresh : Limits → ℕ
at_fresh l = at_held l + bitmap_size l

-- THE SUPERBLOCK
abbrev pub super_words : Limits → Bool → Counts → List Item → List ℕ
super_words l live base js =
    mark ∷ l.room ∷ l.nodes_most ∷ l.pending ∷ bit_word live
    ∷ base.next ∷ base.nodes ∷ base.entries ∷ base.cells ∷ length (journal_words js)
    ∷ 0 ∷ 0 ∷ 0 ∷ 0 ∷ 0 ∷ 0 ∷ journal_words js

abbrev pub live_from : List ℕ → Bool
live_from ws = slice_index ws 4 == 1

abbrev pub counts_from : List ℕ → Counts
counts_from ws = record { next = slice_index ws 5; nodes = slice_index ws 6; entries = slice_index ws 7; cells = slice_index ws 8 }

abbrev pub super_journal : List ℕ → List Item
super_journal ws = journal_from (part 16 (slice_index ws 9) ws)

-- a table's words as a block
abbrev pub super_block : Limits → Bool → Counts → List Item → Block
super_block l live base js = flat_map (bytes_of 8) (pad 512 (super_words l live base js))

-- MEMORY
abbrev pub head_words : Limits → State → List ℕ
head_words l st =
    mark ∷ l.room ∷ l.nodes_most ∷ l.pending
    ∷ (counts_of st.tree).nodes ∷ (counts_of st.tree).entries ∷ (counts_of st.tree).cells ∷ st.tree.next
    ∷ st.older ∷ bit_word st.over ∷ 0 ∷ 0 ∷ 0 ∷ 0 ∷ 0 ∷ 0 ∷ []

abbrev pub tables : Limits → State → List ℕ
tables l st =
    pad (4 * l.nodes_most) (node_words st.tree.nodes)
    ++ (pad (2 * l.nodes_most) (sum_words 0 0 st.tree.nodes)
    ++ (pad (16 * l.nodes_most) (entry_words st.tree.nodes)
    ++ (pad l.room (cell_words st.tree.nodes)
    ++ (bits_words (bitmap_size l) st.held
    ++ (bits_words (bitmap_size l) st.fresh
    ++ bits_words (bitmap_size l) (own l st.tree))))))

abbrev pub memory : Limits → State → List ℕ
memory l st = head_words l st ++ (pad 512 (super_words l st.live st.base st.journal) ++ tables l st)

abbrev pub state_from : Limits → List ℕ → State
state_from l mem =
    let super : List ℕ = part 16 512 mem in
    record {
      tree = tree_from (slice_index mem 7) (slice_index mem 4) (part at_nodes (4 * l.nodes_most) mem)
          (part (at_entries l) (16 * l.nodes_most) mem) (part (at_cells l) l.room mem);
      older = slice_index mem 8;
      held = take l.room (bits_of (part (at_held l) (bitmap_size l) mem));
      fresh = take l.room (bits_of (part (at_fresh l) (bitmap_size l) mem));
      live = live_from super;
      base = counts_from super;
      journal = super_journal super;
      over = (slice_index mem 9 == 1);
    }

-- THE DISK
abbrev pub checkpoint_blocks : Tree → List Block
checkpoint_blocks t = table_blocks (node_words t.nodes) ++
    (table_blocks (entry_words t.nodes) ++ table_blocks (cell_words t.nodes))

abbrev pub checkpoint_size : Limits → ℕ
checkpoint_size l = blocks_count (4 * l.nodes_most) + (blocks_count (16 * l.nodes_most) + blocks_count l.room)

-- where the live area begins
abbrev pub live_area : Limits → Bool → ℕ
live_area l live = suc l.room + cond live (checkpoint_size l) 0

abbrev pub base_from : Counts → List Block → Tree
base_from c bs =
    let n : ℕ = 4 * c.nodes in
    let e : ℕ = 16 * c.entries in
    tree_from c.next c.nodes (loaded n bs) (loaded e (drop (blocks_count n) bs))
    (loaded c.cells (drop (blocks_count n + blocks_count e) bs))

abbrev pub root_from : Limits → List Block → Root
root_from l bs =
    let super : List ℕ = chunks 512 0 (slice_index_or bs 0 empty_block) in
    record {
      live = live_from super;
      base = base_from (counts_from super) (drop (live_area l (live_from super)) bs);
      journal =
          super_journal super;
    }

abbrev pub layout : Encoding
layout = record {
  encode = memory;
  decode = state_from;
  fits = λ l js. nat_le (length (journal_words js)) journal_room;
  superblock = super_block;
  checkpoint = λ l t. checkpoint_blocks t;
  area_size = checkpoint_size;
  load = root_from;
}

-- THE PROGRAM
abbrev pub volume_program : Program
volume_program = program layout
