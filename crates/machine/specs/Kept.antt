-- WHAT STAYS, whatever happens: a state that the layout can carry, and a disk on which a start finds one. Each is a type whose
-- proof is owed. Definitions only.
use Rattle.std.specs.Prelude.{◌≡◌, ℕ, ◌+◌, ◌<◌, ◌≤◌, Bool, true, false, List, [], length, get_or, slice_index_or}
use Rattle.model.specs.Tree.{all_cells}
use Rattle.model.specs.Calls.{Block, empty_block, Call, readable}
use Rattle.model.specs.Refusals.{Limits}
use Rattle.model.specs.Fs.{is_in}
use Rattle.model.specs.World.{seen, blocks_for, whole_blocks, World, Lived}
use Rattle.model.specs.Promise.{GoodLimits, all_readable}
use Rattle.machine.specs.State.{Sized, counts_of, State, Core, redo, ready}
use Rattle.machine.specs.Program.{Root, area_start, state_next, woken}
use Rattle.machine.specs.Fits.{Fits, ok_call, ok_journal, Carries}
use Rattle.machine.specs.Layout.{memory, layout, volume_program}

-- a state that the layout can carry, with the blocks of its newest tree among those held
pub record Carried (l : Limits) (st : State) : Type 0 where
  pub carries : Carries layout.fits l st
  pub own_held : (b : ℕ) → is_in b (all_cells st.tree.nodes) ≡ true → slice_index_or st.held b false ≡ true

-- what a replay works on: a tree that fits, with its blocks among those held
pub record CoreCarries (l : Limits) (x : Core) : Type 0 where
  pub tree_fits : Fits l x.tree
  pub few_older : x.older ≤ l.pending
  pub held_long : length x.held ≡ l.room
  pub own_held : (b : ℕ) → is_in b (all_cells x.tree.nodes) ≡ true → slice_index_or x.held b false ≡ true

-- 1. Each call leaves a state that the layout can carry,
abbrev pub CarriedNext : Type 0
CarriedNext =
    (l : Limits) (st : State) (c : Call) → Sized l → Carried l st → readable c ≡ true →
    Carried l (state_next layout l st c)

-- and so does each item of a journal that is done again,
abbrev pub CarriedRedo : Type 0
CarriedRedo =
    (l : Limits) (x : Core) (first : Bool) (c : Call) → Sized l → CoreCarries l x → ok_call c ≡ true →
    CoreCarries l (redo l (ready l first x) c)

-- and a start.
abbrev pub CarriedWoken : Type 0
CarriedWoken =
    (l : Limits) (r : Root) → Sized l → Fits l r.base → layout.fits l r.journal ≡ true → ok_journal r.journal ≡ true →
    Carried l (woken l r)

-- 2. Whenever the program is up and nothing is under way, its memory is the encoding of a state that the layout can carry.
abbrev pub AlwaysCarried : (ℕ → Bool) → Type 0
AlwaysCarried can =
    (l : Limits) (w : World) → GoodLimits can l → Lived volume_program l w → all_readable w.past ≡ true →
    w.up ≡ true → w.todo ≡ [] → w.under ≡ [] → (st : State) × Carried l st × (w.memory ≡ memory l st)

-- 3. What a start finds: a superblock and the checkpoint that it names, and every block is whole.
pub record Written (l : Limits) (bs : List Block) : Type 0 where
  pub root : Root
  pub base_fits : Fits l root.base
  pub journal_fits : layout.fits l root.journal ≡ true
  pub journal_ok : ok_journal root.journal ≡ true
  pub top : get_or bs 0 empty_block ≡ layout.superblock l root.live (counts_of root.base) root.journal
  pub area : (j : ℕ) → j < length (layout.checkpoint l root.base) →
      slice_index_or bs (area_start layout l root.live + j) empty_block ≡ slice_index_or (layout.checkpoint l root.base) j empty_block
  pub long : length bs ≡ blocks_for l
  pub whole : whole_blocks bs ≡ true

-- Whatever happened, be the program up or power gone, the disk is written so whenever nothing is under way.
abbrev pub AlwaysWritten : (ℕ → Bool) → Type 0
AlwaysWritten can =
    (l : Limits) (w : World) → GoodLimits can l → Lived volume_program l w → all_readable w.past ≡ true →
    w.todo ≡ [] → w.under ≡ [] → Written l (seen w.disk)
