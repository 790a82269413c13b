-- The invariant: how memory and the disk stand for a file system. With nothing under way (`Idle`) memory encodes a state
-- whose tree is the newest tree, its cells renamed to data blocks; the superblock and the live area, which may have nothing
-- else, replay to the last synced tree (`Stored`); each held cell's block has now what the cell has, unless it is fresh; and
-- whatever power may leave of a block of the last synced tree, it may leave of the cell (`Covers`). `Busy` says the same of
-- a call under way: after any front of its acts, power leaves the state before or after it. `Laws` is what is asked of an
-- encoding.
use Rattle.std.proofs.Common.{◌≡◌, ℕ, suc, ◌+◌, ◌*◌, ◌<◌, ◌≤◌, Bool, true, false, ◌&&◌, eqb, ◌⊎◌, List, [], ◌∷◌, map, length, get_or, take}
use Rattle.model.specs.Tree.{Tree, new_tree, all_cells}
use Rattle.model.specs.Calls.{Block, empty_block, Call, readable, bytes}
use Rattle.model.specs.Refusals.{Limits, refusal}
use Rattle.model.specs.Fs.{Cell, Fs, empty_cell, is_in, cells_of, answer, after, lost, chosen}
use Rattle.model.specs.World.{Act, Disk, did_all, seen, blocks_for}
use Rattle.model.specs.Promise.{good_acts, all_below}
use Rattle.machine.specs.State.{Sized, Item, counts_of, State, push_it, kind, ren, more, next_tree, marks, synced_core, ready, replay}
use Rattle.machine.specs.Program.{Root, Encoding, area_start, wakes, state_says, state_does, state_next}
use Rattle.machine.specs.Fits.{ok_call, ok_journal}

abbrev pub at : List ℕ → ℕ → ℕ
at m c = get_or m c 0

-- a cell with nothing that may come back, and what comes of a cell when power goes
abbrev pub still : Block → Cell
still b = record { now = b; maybe = [] }

abbrev pub left : Cell → ℕ → Block
left x j = get_or (x.now ∷ x.maybe) j x.now

-- whatever may be left of a block may be left of a cell
abbrev pub Covers : Cell → Cell → Type 0
Covers x y = (j : ℕ) → (i : ℕ) × (left y i ≡ left x j)

-- the last kept tree, and all that is held
abbrev pub last : Fs → Tree
last s = get_or (s.tree ∷ s.older) (length s.older) s.tree

abbrev pub last_cells : Fs → List ℕ
last_cells s = all_cells (last s).nodes

abbrev pub held_cells : Fs → List ℕ
held_cells s = cells_of (s.tree ∷ s.older)

-- cells that are there, are in the room, and apart
pub record Placed (room : ℕ) (m : List ℕ) (hs : List ℕ) : Type 0 where
  pub within : (c : ℕ) → is_in c hs ≡ true → c < length m
  pub below : (c : ℕ) → is_in c hs ≡ true → at m c < room
  pub apart : (c e : ℕ) → is_in c hs ≡ true → is_in e hs ≡ true → at m c ≡ at m e → c ≡ e

-- the area of a row holds a tree, and block 0 a journal that makes another of it
pub record Stored (k : Encoding) (l : Limits) (d : Disk) (r : Root) (t : Tree) : Type 0 where
  pub top : get_or d 0 empty_cell ≡ still (k.superblock l r.live (counts_of r.base) r.journal)
  pub rest : (j : ℕ) → j < length (k.checkpoint l r.base) → get_or d (area_start k l r.live + j) empty_cell ≡ still
      (get_or (k.checkpoint l r.base) j empty_block)
  pub replays : (replay l (synced_core l r.base) r.journal).tree ≡ t

-- blocks of bytes, and memory that is small enough
abbrev pub good_block : Block → Bool
good_block b = eqb (length b) 4096 && bytes b

abbrev pub SmallMem : Limits → List ℕ → Type 0
SmallMem l mem = (length mem ≤ 16 * l.room + (64 * l.nodes_most + (64 * l.pending + 1024))) ×
    (all_below 18446744073709551616 mem ≡ true)

-- what is needed of encodings. Fits: the trees that they can carry
pub record Laws (k : Encoding) (Fits : Limits → Tree → Type 0) : Type 0 where
  pub dec_enc : (l : Limits) (st : State) → Sized l → Fits l st.tree → st.older ≤ l.pending → length st.held ≡ l.room →
      length st.fresh ≡ l.room → k.fits l st.journal ≡ true → ok_journal st.journal ≡ true → k.decode l (k.encode l st) ≡ st
  pub loads : (l : Limits) (bs : List Block) (r : Root) → Sized l → length bs ≡ blocks_for l → Fits l r.base →
      k.fits l r.journal ≡ true → ok_journal r.journal ≡ true → get_or bs 0 empty_block ≡ k.superblock l r.live
      (counts_of r.base) r.journal →
      ((j : ℕ) → j < length (k.checkpoint l r.base) → get_or bs (area_start k l r.live + j) empty_block ≡ get_or
      (k.checkpoint l r.base) j empty_block) → k.load l bs ≡ r
  pub fits_none : (l : Limits) → k.fits l [] ≡ true
  pub area_short : (l : Limits) (t : Tree) → Sized l → Fits l t → length (k.checkpoint l t) ≤ k.area_size l
  pub areas_fit : (l : Limits) → Sized l → suc l.room + (k.area_size l + k.area_size l) ≤ blocks_for l
  pub enc_small : (l : Limits) (st : State) (t : Tree) → Sized l → Fits l t → st.base ≡ counts_of t → Fits l st.tree →
      st.older ≤ l.pending → length st.held ≡ l.room → length st.fresh ≡ l.room → k.fits l st.journal ≡ true →
      ok_journal st.journal ≡ true → SmallMem l (k.encode l st)
  pub super_good : (l : Limits) (r : Bool) (t : Tree) (js : List Item) → Sized l → Fits l t → k.fits l js ≡ true →
      ok_journal js ≡ true → good_block (k.superblock l r (counts_of t) js) ≡ true
  pub area_good : (l : Limits) (t : Tree) → Sized l → Fits l t → (j : ℕ) → j < length (k.checkpoint l t) →
      good_block (get_or (k.checkpoint l t) j empty_block) ≡ true
  pub fits_new : (l : Limits) → Sized l → Fits l new_tree
  pub fits_next : (l : Limits) (t : Tree) (o h : ℕ) (new : List ℕ) (c : Call) → Sized l → readable c ≡ true → refusal l t o h c ≡ 0 →
      kind t c ≡ push_it → Fits l t →
      length new ≡ more t c →
      ((j : ℕ) → j < length new → (at new j < l.room) × (is_in (at new j) (all_cells t.nodes) ≡ false)) →
      ((i j : ℕ) → i < j → j < length new → at new i < at new j) →
      Fits l (next_tree t new c)
  pub ok_next : (l : Limits) (t : Tree) (o h : ℕ) (c : Call) → Sized l → readable c ≡ true → refusal l t o h c ≡ 0 →
      kind t c ≡ push_it → Fits l t → ok_call c ≡ true

-- what is left when power goes
pub record Safe (k : Encoding) (Fits : Limits → Tree → Type 0) (l : Limits) (s : Fs) (d : Disk) (r : Root) (m : List ℕ) : Type 0 where
  pub size : length d ≡ blocks_for l
  pub long : length m ≡ length s.cells
  pub placed : Placed l.room m (last_cells s)
  pub fits : Fits l (ren (at m) (last s))
  pub base_fits : Fits l r.base
  pub journal_fits : k.fits l r.journal ≡ true
  pub journal_ok : ok_journal r.journal ≡ true
  pub stored : Stored k l d r (ren (at m) (last s))
  pub covered : (c : ℕ) → is_in c (last_cells s) ≡ true → Covers (get_or d (suc (at m c)) empty_cell) (get_or s.cells c empty_cell)

-- nothing is under way
pub record Idle (k : Encoding) (Fits : Limits → Tree → Type 0) (l : Limits) (s : Fs) (d : Disk) (st : State) (m : List ℕ) : Type 0 where
  pub tree_is : st.tree ≡ ren (at m) s.tree
  pub older_is : st.older ≡ length s.older
  pub held_bits : st.held ≡ marks l.room 0 (map (at m) (held_cells s))
  pub few : length s.older ≤ l.pending
  pub tree_fits : Fits l st.tree
  pub all_placed : Placed l.room m (held_cells s)
  pub fresh_long : length st.fresh ≡ l.room
  pub fresh_is : (c : ℕ) → is_in c (held_cells s) ≡ true → get_or st.fresh (at m c) false ≡ true →
      (get_or s.cells c empty_cell ≡ empty_cell) × (is_in c (last_cells s) ≡ false)
  pub now_is : (c : ℕ) → is_in c (held_cells s) ≡ true → get_or st.fresh (at m c) false ≡ false →
      (get_or d (suc (at m c)) empty_cell).now ≡ (get_or s.cells c empty_cell).now
  pub root : Root
  pub live_is : st.live ≡ root.live
  pub base_is : st.base ≡ counts_of root.base
  pub journal_fits : k.fits l st.journal ≡ true
  pub journal_ok : ok_journal st.journal ≡ true
  pub journal_is : st.over ≡ false → ready l (eqb st.older 0) (replay l (synced_core l root.base) st.journal) ≡ record
      { tree = st.tree; older = st.older; held = st.held }
  pub safe : Safe k Fits l s d root m

abbrev pub SomeSafe : (k : Encoding) (Fits : Limits → Tree → Type 0) → Limits → Fs → Disk → Type 0
SomeSafe k Fits l s d = (r : Root) × (m : List ℕ) × Safe k Fits l s d r m

abbrev pub SomeIdle : (k : Encoding) (Fits : Limits → Tree → Type 0) → Limits → Fs → Disk → State → Type 0
SomeIdle k Fits l s d st = (m : List ℕ) × Idle k Fits l s d st m

-- a call under way, from s to s': after what is left to do, all is as after the call; and after any front of it what
-- power leaves is of what was before, or of what is after (which of them may go by what power leaves)
pub record Busy (k : Encoding) (Fits : Limits → Tree → Type 0) (l : Limits) (s s' : Fs) (d : Disk) (todo : List Act) (st : State) : Type
    0 where
  pub ends : SomeIdle k Fits l s' (did_all todo d) st
  pub short : length todo ≤ 2 * blocks_for l
  pub good : good_acts (blocks_for l) todo ≡ true
  pub fronts : (n : ℕ) (g : ℕ → ℕ) → SomeSafe k Fits l s (chosen g 0 (did_all (take n todo) d)) ⊎
      SomeSafe k Fits l s' (chosen g 0 (did_all (take n todo) d))

-- what is owed of each call, and of power
abbrev pub CallsGo : (k : Encoding) (Fits : Limits → Tree → Type 0) → Type 0
CallsGo k Fits =
    (l : Limits) (s : Fs) (d : Disk) (st : State) (m : List ℕ) (c : Call) → Sized l → Idle k Fits l s d st m → readable c ≡ true →
    (state_says l st (seen d) c ≡ answer l s c) × Busy k Fits l s (after l s c) d (state_does k l st c) (state_next k l st c)

abbrev pub PowerGoes : (k : Encoding) (Fits : Limits → Tree → Type 0) → Type 0
PowerGoes k Fits =
    (l : Limits) (s : Fs) (d : Disk) (r : Root) (m : List ℕ) (g : ℕ → ℕ) → Sized l → Safe k Fits l s d r m →
    (h : ℕ → ℕ) × (m' : List ℕ) × Idle k Fits l (lost (length s.older) h s) (chosen g 0 d) (wakes k l (seen (chosen g 0 d))) m'
