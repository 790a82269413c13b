-- What a step means for a tree whose tables were asked, and what a check tells. Definitions only.
use Rattle.std.specs.Prelude.{◌≡◌, ℕ, suc, ◌+◌, ◌*◌, ◌<◌, ◌≤◌, Bool, true, false, List, [], ◌∷◌, length, get_or, drop, Ok, Err, Result, MatchResult, ◌≢◌, slice_index, slice_index_or}
use Rattle.model.specs.Tree.{Name, Tree, body_of, entries, cells, named, is_file, holds}
use Rattle.model.specs.Calls as calls
use Rattle.model.specs.Calls.{Call}
use Rattle.model.specs.Refusals.{Limits, in_place, refusal, refusal_by}
use Rattle.model.specs.Fs.{no_entry}
use Rattle.machine.specs.Tables.{entry_from}
use Rattle.machine.specs.Fits.{ok_name}
use Rattle.tables.specs.Lookup.{Place}
use Rattle.tables.specs.Edits.{Tables}
use Rattle.tables.specs.Stands.{Stands, EntryStands}
use Rattle.calls.specs.declared.Refusal.{Refusal}
use Rattle.calls.specs.Meaning.{refusal_number}
use Rattle.rows.specs.declared.nodes.Kind.{Kind}
use Rattle.rows.specs.declared.nodes.Kind.TheVariants.{Dir, File}
use Rattle.rows.specs.Places.{place_in}
use Rattle.lookup.specs.Found.{NameFound, ids_in}
use Rattle.lookup.specs.Views.{words, Sound}
use Rattle.steps.specs.declared.stage.Stage.{Stage}
use Rattle.steps.specs.declared.state.State.{State}
use Rattle.steps.specs.Stages.{limits_of}
use Rattle.steps.specs.declared.step.Renaming.{Renaming}
use Rattle.steps.specs.declared.step.Step.{Step}
use Rattle.steps.specs.declared.step.Step.TheVariants.{Find, Make, Remove, Rename, SameName, List as ListStep, Size, Read, Write}
use Rattle.steps.specs.declared.step.Step.TheVariants.{SameSize}
use Rattle.steps.specs.declared.step.Step.TheVariants.{Grow, Cut, SyncFile, SyncTree}

-- a directory, and a file, that stands at a place
pub record DirStands (t : Tree) (d : ℕ) (p : Place) : Type 0 where
  pub stands : Stands d t.nodes p
  pub kind : p.kind ≡ 0

pub record FileStands (t : Tree) (i : ℕ) (p : Place) : Type 0 where
  pub stands : Stands i t.nodes p
  pub kind : p.kind ≡ 1

abbrev pub make_call : Kind → ℕ → Name → Call
make_call Dir d n = calls.make_dir d n
make_call File d n = calls.make_file d n

pub record Finds (t : Tree) (c : Call) (i : ℕ) : Type 0 where
  pub dir : ℕ
  pub name : Name
  pub is : c ≡ calls.find dir name
  pub found : named t dir name ≡ i ∷ []

-- a node made: there is room for it, for its entry and for its id, and the name is new
pub record Makes (l : Limits) (T : Tables) (t : Tree) (older : ℕ) (c : Call) (k : Kind) (p : Place) (n : Name) : Type 0 where
  pub dir : ℕ
  pub is : c ≡ make_call k dir n
  pub in_dir : DirStands t dir p
  pub ok : ok_name n ≡ true
  pub new : named t dir n ≡ []
  pub nodes_room : T.used.nodes < l.nodes_most
  pub entries_room : T.used.entries < l.nodes_most
  pub ids_room : t.next < 4294967295
  pub older_room : older < l.pending

-- a node removed, by the entry that names it; it has no entries
pub record Removes (l : Limits) (t : Tree) (older : ℕ) (c : Call) (p : Place) (j i : ℕ) : Type 0 where
  pub dir : ℕ
  pub name : Name
  pub is : c ≡ calls.remove dir name
  pub in_dir : DirStands t dir p
  pub entry : EntryStands name (entries (body_of t dir)) j
  pub found : named t dir name ≡ i ∷ []
  pub empty : entries (body_of t i) ≡ []
  pub older_room : older < l.pending

-- one more older tree may be, and what has the new name is another node without entries
pub record Way (l : Limits) (t : Tree) (older i : ℕ) (js : List ℕ) : Type 0 where
  pub older_room : older < l.pending
  pub apart : (j : ℕ) → js ≡ j ∷ [] → i ≢ j
  pub empty : (j : ℕ) → js ≡ j ∷ [] → entries (body_of t j) ≡ []

abbrev pub InPlaceTells : Limits → Tree → ℕ → ℕ → List ℕ → Result Bool Refusal → Type 0
InPlaceTells l t older i js (Err e) = in_place l t older i js ≡ refusal_number e
InPlaceTells l t older i js (Ok true) = (in_place l t older i js ≡ 0) × (js ≡ i ∷ [])
InPlaceTells l t older i js (Ok false) = (in_place l t older i js ≡ 0) × Way l t older i js

-- so many steps down
abbrev pub steps_down : Tree → ℕ
steps_down t = 2 * length t.nodes * suc (length t.nodes)

pub record Renames (l : Limits) (t : Tree) (older : ℕ) (c : Call) (r : Renaming) : Type 0 where
  pub old : Name
  pub is : c ≡ calls.rename r.from old r.to r.name.now
  pub from_dir : DirStands t r.from (place_in r.source)
  pub to_dir : DirStands t r.to (place_in r.target)
  pub old_ok : ok_name old ≡ true
  pub new_ok : ok_name r.name.now ≡ true
  pub entry : EntryStands old (entries (body_of t r.from)) r.entry.index
  pub found : named t r.from old ≡ r.entry.id ∷ []
  pub outside : holds (steps_down t) t r.entry.id r.to ≡ false
  pub taken : NameFound t r.to r.name.now r.replaced
  pub way : Way l t older r.entry.id (ids_in r.replaced)

pub record IsSameName (t : Tree) (c : Call) : Type 0 where
  pub from : ℕ
  pub old : Name
  pub to : ℕ
  pub new : Name
  pub id : ℕ
  pub is : c ≡ calls.rename from old to new
  pub found : named t from old ≡ id ∷ []
  pub there : named t to new ≡ id ∷ []

-- an entry's row, of which a name of at most 64 bytes can be read
pub record Lists (T : Tables) (t : Tree) (c : Call) (row : ℕ) : Type 0 where
  pub dir : ℕ
  pub index : ℕ
  pub is : c ≡ calls.list dir index
  pub inside : 16 * row + 16 ≤ length T.entries
  pub short : get_or T.entries (16 * row + 1) 0 ≤ 64
  pub entry : entry_from (drop (16 * row) T.entries) ≡ slice_index_or (entries (body_of t dir)) index no_entry

pub record Sizes (t : Tree) (c : Call) (k : ℕ) : Type 0 where
  pub id : ℕ
  pub is : c ≡ calls.size id
  pub many : k ≡ length (cells (body_of t id))

-- a place of a file, and its data block
pub record Reads (t : Tree) (c : Call) (b : ℕ) : Type 0 where
  pub id : ℕ
  pub at : ℕ
  pub is : c ≡ calls.read id at
  pub below : at < length (cells (body_of t id))
  pub block : b ≡ slice_index (cells (body_of t id)) at

pub record Writes (t : Tree) (c : Call) (b : ℕ) (x : List ℕ) : Type 0 where
  pub id : ℕ
  pub at : ℕ
  pub is : c ≡ calls.write id at x
  pub below : at < length (cells (body_of t id))
  pub block : b ≡ slice_index (cells (body_of t id)) at

-- a file to have as many places as it has, more, or fewer
pub record IsSameSize (t : Tree) (c : Call) : Type 0 where
  pub id : ℕ
  pub many : ℕ
  pub is : c ≡ calls.resize id many
  pub same : many ≡ length (cells (body_of t id))

pub record Grows (l : Limits) (t : Tree) (older held : ℕ) (c : Call) (p : Place) (k : ℕ) : Type 0 where
  pub id : ℕ
  pub is : c ≡ calls.resize id (p.count + k)
  pub in_file : FileStands t id p
  pub more : 0 < k
  pub cells_room : held + k ≤ l.room
  pub older_room : older < l.pending

pub record Cuts (l : Limits) (t : Tree) (older : ℕ) (c : Call) (p : Place) (k : ℕ) : Type 0 where
  pub id : ℕ
  pub is : c ≡ calls.resize id k
  pub in_file : FileStands t id p
  pub fewer : k < p.count
  pub older_room : older < l.pending

pub record SyncsFile (t : Tree) (c : Call) (i : ℕ) : Type 0 where
  pub is : c ≡ calls.sync_file i
  pub file : is_file (body_of t i) ≡ true

-- the step that a call asks for
abbrev pub Means : Limits → Tables → Tree → ℕ → ℕ → Call → Step → Type 0
Means l T t older held c (Find i) = Finds t c i
Means l T t older held c (Make k p n) = Makes l T t older c k (place_in p) n.now
Means l T t older held c (Remove p e) = Removes l t older c (place_in p) e.index e.id
Means l T t older held c (Rename r) = Renames l t older c r
Means l T t older held c SameName = IsSameName t c
Means l T t older held c (ListStep row) = Lists T t c row
Means l T t older held c (Size k) = Sizes t c k
Means l T t older held c (Read b) = Reads t c b
Means l T t older held c (Write b x) = Writes t c b x.now
Means l T t older held c SameSize = IsSameSize t c
Means l T t older held c (Grow p k) = Grows l t older held c (place_in p) k
Means l T t older held c (Cut p k) = Cuts l t older c (place_in p) k
Means l T t older held c (SyncFile i) = SyncsFile t c i
Means l T t older held c SyncTree = c ≡ calls.sync_tree

-- what a check tells of a call whose fields are in range: the reason why it is refused, or the step
abbrev pub Tells : Limits → Tables → Tree → ℕ → ℕ → Call → Result Step Refusal → Type 0
Tells l T t older held c (Err e) = refusal_by l t older held c ≡ refusal_number e
Tells l T t older held c (Ok s) = (refusal_by l t older held c ≡ 0) × Means l T t older held c s

-- and of any call
abbrev pub TellsAll : Limits → Tables → Tree → ℕ → ℕ → Call → Result Step Refusal → Type 0
TellsAll l T t older held c (Err e) = refusal l t older held c ≡ refusal_number e
TellsAll l T t older held c (Ok s) = (refusal l t older held c ≡ 0) × Means l T t older held c s

-- what a check tells of a call by the tables alone, whatever tree they hold
abbrev pub ToldByTables : Tables → Call → Result Step Refusal → Type 0
ToldByTables T c r = (l : Limits) (t : Tree) (older held : ℕ) → Sound l T t → Tells l T t older held c r

-- and by a state, at any stage, where so many cells are held
abbrev pub ToldByState : State → ℕ → Call → Result Step Refusal → Type 0
ToldByState a held c r =
    (s : Stage) (t : Tree) → Sound (limits_of s a.room.limits) (words a.tree.view) t →
    Tells (limits_of s a.room.limits) (words a.tree.view) t a.room.older held c r

-- what is told of a place of a file by the tables alone: why it cannot be read, or its data block
abbrev pub BlockTold : Tables → ℕ → ℕ → Result ℕ Refusal → Type 0
BlockTold T i o r =
    (l : Limits) (t : Tree) (older held : ℕ) → Sound l T t →
    MatchResult r (λ b. (refusal_by l t older held (calls.read i o) ≡ 0) × Reads t (calls.read i o) b)
    (λ e. refusal_by l t older held (calls.read i o) ≡ refusal_number e)
