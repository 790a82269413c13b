-- MEMORY STANDS FOR A STATE: each table has the words that the layout gives it. Definitions only.
use Rattle.std.specs.Prelude.{◌≡◌, ℕ, ◌*◌, List, ◌++◌, length}
use Rattle.blocks.specs.Words.{pad}
use Rattle.blocks.specs.Bits.{bits_words}
use Rattle.model.specs.Refusals.{Limits}
use Rattle.machine.specs.State.{State, own}
use Rattle.machine.specs.Tables.{node_words, sum_words, entry_words, cell_words}
use Rattle.machine.specs.Fits.{Carries}
use Rattle.machine.specs.Layout.{bitmap_size, super_words, head_words, layout}
use Rattle.memory.specs.declared.newest.Tables.{Tables}
use Rattle.memory.specs.declared.status.Status.{Status}

pub record Encodes (l : Limits) (st : State) (t : Tables) (s : Status) : Type 0 where
  pub head : s.head.now ≡ head_words l st
  pub superblock : s.superblock.now ≡ pad 512 (super_words l st.live st.base st.journal)
  pub nodes : t.nodes.now ≡ pad (4 * l.nodes_most) (node_words st.tree.nodes)
  pub sums : t.sums.now ≡ pad (2 * l.nodes_most) (sum_words 0 0 st.tree.nodes)
  pub entries : t.entries.now ≡ pad (16 * l.nodes_most) (entry_words st.tree.nodes)
  pub cells : t.cells.now ≡ pad l.room (cell_words st.tree.nodes)
  pub held : s.held.now ≡ bits_words (bitmap_size l) st.held
  pub fresh : s.fresh.now ≡ bits_words (bitmap_size l) st.fresh
  pub own : s.own.now ≡ bits_words (bitmap_size l) (own l st.tree)

-- it stands for a state that the program can have: what a call leaves, and a start
pub record Ready (l : Limits) (st : State) (t : Tables) (s : Status) : Type 0 where
  pub encodes : Encodes l st t s
  pub carries : Carries layout.fits l st

-- all words of memory, table after table
abbrev pub whole : Tables → Status → List ℕ
whole t s =
    s.head.now
    ++ (s.superblock.now
    ++ (t.nodes.now ++ (t.sums.now ++ (t.entries.now ++ (t.cells.now ++ (s.held.now ++ (s.fresh.now ++ s.own.now)))))))

-- how long each slice is, for given limits
pub record Lengths (l : Limits) (t : Tables) (s : Status) : Type 0 where
  pub head : length s.head.now ≡ 16
  pub superblock : length s.superblock.now ≡ 512
  pub nodes : length t.nodes.now ≡ 4 * l.nodes_most
  pub sums : length t.sums.now ≡ 2 * l.nodes_most
  pub entries : length t.entries.now ≡ 16 * l.nodes_most
  pub cells : length t.cells.now ≡ l.room
  pub held : length s.held.now ≡ bitmap_size l
  pub fresh : length s.fresh.now ≡ bitmap_size l
  pub own : length s.own.now ≡ bitmap_size l

-- slices of those lengths, whose words together are the encoding of a state, have each the words of its table; and the other way
abbrev pub WholeSplits : Type 0
WholeSplits = (l : Limits) (st : State) (t : Tables) (s : Status) → Carries layout.fits l st → Lengths l t s →
    whole t s ≡ layout.encode l st → Encodes l st t s

abbrev pub WholeJoins : Type 0
WholeJoins = (l : Limits) (st : State) (t : Tables) (s : Status) → Encodes l st t s → whole t s ≡ layout.encode l st

-- memory that stands for a state has those lengths
abbrev pub LengthsAre : Type 0
LengthsAre = (l : Limits) (st : State) (t : Tables) (s : Status) → Ready l st t s → Lengths l t s
