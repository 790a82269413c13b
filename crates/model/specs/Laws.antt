-- LAWS of the file system: what follows from the definitions for whoever uses it. Each is a type; crate `laws` has the
-- proofs. Definitions only.
use Rattle.std.specs.Prelude.{◌≡◌, ◌⊎◌, Bool, true, false, cond, ◌&&◌, ◌||◌, List, [], ◌∷◌, ◌++◌, ℕ, ◌+◌, ◌≤◌, ◌<◌, eqb, leb, length, get_or}
use Rattle.model.specs.Tree.{some_of, first_of, same, Name, Entry, Body, Node, Tree, body_of, is_dir, is_file, entries, cells, named}
use Rattle.model.specs.Tree.{all_cells}
use Rattle.model.specs.Calls.{Block, empty_block, Call, find, make_file, make_dir, remove, rename, list, size, read, write, resize}
use Rattle.model.specs.Calls.{sync_file, sync_tree, garbled, number, block}
use Rattle.model.specs.Refusals.{Limits}
use Rattle.model.specs.Fs.{Cell, Fs, empty_cell, is_in, held, turned, cell_at, answer, after, lost}
use Rattle.model.specs.World.{Happening, was_told, was_cut, power_went}
use Rattle.model.specs.Promise.{all, GoodLimits, Leads, Explains}

-- whatever happened
abbrev pub Ever : (ℕ → Bool) → (Limits → Fs → Type 0) → Type 0
Ever can p = (l : Limits) (hs : List Happening) (s : Fs) → GoodLimits can l → Explains l hs s → p l s

-- the trees that power may bring back now: 0 is the newest, 1 the one before it, and so on
abbrev pub tree_at : Fs → ℕ → Tree
tree_at s n = get_or (s.tree ∷ s.older) n s.tree

-- what has a name, and what the places of a file have
abbrev pub by_name : Fs → ℕ → Name → List Body
by_name s d n = body_of s.tree (first_of (named s.tree d n))

unfoldable pub all_now : List Cell → List ℕ → List Block
all_now cs [] = []
all_now cs (k ∷ ks) = (get_or cs k empty_cell).now ∷ all_now cs ks

abbrev pub has : Fs → List Body → List Block
has s b = all_now s.cells (cells b)

-- THE EIGHT LAWS.
-- 1. In a directory each name is there once, and names a node that is there.
unfoldable pub name_among : Name → List Entry → Bool
name_among n [] = false
name_among n (e ∷ es) = same n e.name || name_among n es

unfoldable pub twice : List Entry → Bool
twice [] = false
twice (e ∷ es) = name_among e.name es || twice es

unfoldable pub all_there : Tree → List Entry → Bool
all_there t [] = true
all_there t (e ∷ es) = some_of (body_of t e.id) && all_there t es

unfoldable pub NamesOnce : (ℕ → Bool) → Type 0
NamesOnce can = Ever can (λ l s. (d : ℕ) →
    (twice (entries (body_of s.tree d)) ≡ false) × (all_there s.tree (entries (body_of s.tree d)) ≡ true))

-- 2. Each node but directory 0 is named once.
unfoldable pub in_entries : ℕ → List Entry → ℕ
in_entries i [] = 0
in_entries i (e ∷ es) = cond (eqb i e.id) 1 0 + in_entries i es

unfoldable pub times_named : ℕ → List Node → ℕ
times_named i [] = 0
times_named i (t ∷ ts) = in_entries i (entries (t.body ∷ [])) + times_named i ts

unfoldable pub NamedOnce : (ℕ → Bool) → Type 0
NamedOnce can = Ever can (λ l s. (i : ℕ) → 0 < i → some_of (body_of s.tree i) ≡ true → times_named i s.tree.nodes ≡ 1)

-- 3. No cell is at two places, in any tree.
unfoldable pub cell_twice : List ℕ → Bool
cell_twice [] = false
cell_twice (c ∷ cs) = is_in c cs || cell_twice cs

unfoldable pub CellsOnce : (ℕ → Bool) → Type 0
CellsOnce can = Ever can (λ l s. (n : ℕ) → n ≤ length s.older → cell_twice (all_cells (tree_at s n).nodes) ≡ false)

-- 4. Cells held, nodes and older trees are at most as many as may be.
unfoldable pub HasRoom : (ℕ → Bool) → Type 0
HasRoom can = Ever can (λ l s. (held s ≤ l.room) × (length s.older ≤ l.pending) × (length s.tree.nodes ≤ l.nodes_most))

-- 5. After the tree was synced, power brings back no older one.
unfoldable pub TreeKept : Type 0
TreeKept =
    (l : Limits) (s : Fs) (n : ℕ) (g : ℕ → ℕ) → turned l s sync_tree ≡ 0 → (lost n g (after l s sync_tree)).tree ≡ s.tree

-- 6. After a file was synced, its places have what they had.
unfoldable pub FileKept : Type 0
FileKept =
    (l : Limits) (s : Fs) (i o : ℕ) (n : ℕ) (g : ℕ → ℕ) → turned l s (sync_file i) ≡ 0 →
    o < length (cells (body_of s.tree i)) → cell_at s i o < length s.cells →
    (get_or (lost n g (after l s (sync_file i))).cells (cell_at s i o) empty_cell).now ≡ (get_or s.cells (cell_at s i o) empty_cell).now

-- 7. Copied whole: a file that was synced, renamed over another that was, nothing being older just before: whenever power
-- goes, by the name there is the one or the other, whole.
unfoldable pub CopiedWhole : Type 0
CopiedWhole =
    (l : Limits) (hs : List Happening) (s : Fs) (i j d e : ℕ) (x y : Name) (n : ℕ) (g : ℕ → ℕ) →
    GoodLimits all l → Explains l hs s → s.older ≡ [] →
    named s.tree d x ≡ i ∷ [] → named s.tree e y ≡ j ∷ [] →
    is_file (body_of s.tree i) ≡ true → is_file (body_of s.tree j) ≡ true → turned l s (rename d x e y) ≡ 0 →
    let t : Fs = after l s (sync_file i) in
    let u : Fs = after l t (sync_file j) in
    let v : Fs = lost n g (after l u (rename d x e y)) in
    (has v (by_name v e y) ≡ has s (by_name s e y)) ⊎ (has v (by_name v e y) ≡ has s (by_name s d x))

-- 8. What is refused changes nothing.
unfoldable pub TurnedAway : Type 0
TurnedAway = (l : Limits) (s : Fs) (c : Call) → 0 < turned l s c → after l s c ≡ s

-- FURTHER LAWS, for what the eight leave open.
-- 9. Read back: after a write that was taken its place reads what was written, and every other place of every file reads
-- as before.
unfoldable pub ReadBack : (ℕ → Bool) → Type 0
ReadBack can = Ever can (λ l s. (i o : ℕ) (b : Block) → can 7 ≡ true → turned l s (write i o b) ≡ 0 →
    let t : Fs = after l s (write i o b) in
    (answer l t (read i o) ≡ block b)
    × ((j p : ℕ) → ((j ≡ i) × (p ≡ o) → ⊥) → answer l t (read j p) ≡ answer l s (read j p)))

-- 10. Every node lies below directory 0, in every tree that power may bring back.
pub data Below (t : Tree) : ℕ → Type 0 where
  root : Below t 0
  entry_of : (d i : ℕ) (n : Name) → Below t d → named t d n ≡ i ∷ [] → Below t i

unfoldable pub AllBelow : (ℕ → Bool) → Type 0
AllBelow can = Ever can (λ l s. (n i : ℕ) → some_of (body_of (tree_at s n) i) ≡ true → Below (tree_at s n) i)

-- 11. No directory is in itself, at whatever depth, in every tree that power may bring back.
pub data Inside (t : Tree) (i : ℕ) : ℕ → Type 0 where
  just : (j : ℕ) (n : Name) → named t i n ≡ j ∷ [] → Inside t i j
  deeper : (d j : ℕ) (n : Name) → Inside t i d → named t d n ≡ j ∷ [] → Inside t i j

unfoldable pub NotInItself : (ℕ → Bool) → Type 0
NotInItself can = Ever can (λ l s. (n i : ℕ) → Inside (tree_at s n) i i → ⊥)

-- A TREE THAT THE LAWS ALLOW, said of one tree: directory 0 is there and has no name; in a directory each name is there once
-- and names a node that is there; every other node has just one name, and lies below directory 0.
pub record Lawful (t : Tree) : Type 0 where
  pub root : is_dir (body_of t 0) ≡ true
  pub root_nameless : times_named 0 t.nodes ≡ 0
  pub names_once : (d : ℕ) → twice (entries (body_of t d)) ≡ false
  pub names_there : (d : ℕ) → all_there t (entries (body_of t d)) ≡ true
  pub named_once : (i : ℕ) → 0 < i → some_of (body_of t i) ≡ true → times_named i t.nodes ≡ 1
  pub all_below : (i : ℕ) → some_of (body_of t i) ≡ true → Below t i

-- 12. A rename leaves no file where a directory was, nor a directory where a file was.
unfoldable pub KindStays : (ℕ → Bool) → Type 0
KindStays can = Ever can (λ l s. (d e j : ℕ) (x y : Name) → turned l s (rename d x e y) ≡ 0 → named s.tree e y ≡ j ∷ [] →
    let t : Fs = after l s (rename d x e y) in
    (is_dir (by_name t e y) ≡ is_dir (by_name s e y)) × (is_file (by_name t e y) ≡ is_file (by_name s e y)))

-- 13. A resize gives a file so many places; those that stay read as before, those that are new read zeros, and every place
-- of every other file reads as before.
unfoldable pub ResizeKeeps : (ℕ → Bool) → Type 0
ResizeKeeps can = Ever can (λ l s. (i n : ℕ) → can 6 ≡ true → can 7 ≡ true → turned l s (resize i n) ≡ 0 →
    let old : ℕ = length (cells (body_of s.tree i)) in
    let t : Fs = after l s (resize i n) in
    (answer l t (size i) ≡ number n)
    × ((o : ℕ) → o < n → o < old → answer l t (read i o) ≡ answer l s (read i o))
    × ((o : ℕ) → o < n → old ≤ o → answer l t (read i o) ≡ block empty_block)
    × ((j p : ℕ) → (j ≡ i → ⊥) → answer l t (read j p) ≡ answer l s (read j p)))

-- OVER WHOLE HISTORIES. A tree that was the newest at some moment: what happened since o falls into what was before that
-- moment and what came after it.
pub record NewestOnce (l : Limits) (o : Fs) (hs : List Happening) (s : Fs) (t : Tree) : Type 0 where
  pub before : List Happening
  pub since : List Happening
  pub then : Fs
  pub whole : hs ≡ since ++ before
  pub led : Leads l o before then
  pub leads : Leads l then since s
  pub newest : then.tree ≡ t

-- 14. Once the tree was synced, no later loss of power brings back an older one: whatever happens then, the tree that power
-- leaves is one that was the newest at some moment since the sync.
unfoldable pub SyncLasts : Type 0
SyncLasts =
    (l : Limits) (u s : Fs) (hs : List Happening) (n : ℕ) → turned l u sync_tree ≡ 0 → Leads l (after l u sync_tree) hs s →
    NewestOnce l (after l u sync_tree) hs s (tree_at s n)

-- what was written to a place of a file, by calls that were answered or cut
unfoldable pub writes_by : ℕ → ℕ → Call → List Block
writes_by i o (find d n) = []
writes_by i o (make_file d n) = []
writes_by i o (make_dir d n) = []
writes_by i o (remove d n) = []
writes_by i o (rename d n e m) = []
writes_by i o (list d k) = []
writes_by i o (size j) = []
writes_by i o (read j p) = []
writes_by i o (write j p b) = cond (eqb i j && eqb o p) (b ∷ []) []
writes_by i o (resize j n) = []
writes_by i o (sync_file j) = []
writes_by i o sync_tree = []
writes_by i o (garbled n) = []

unfoldable pub writes : ℕ → ℕ → List Happening → List Block
writes i o [] = []
writes i o (was_told c a ∷ hs) = writes_by i o c ++ writes i o hs
writes i o (was_cut c ∷ hs) = writes_by i o c ++ writes i o hs
writes i o (power_went ∷ hs) = writes i o hs

-- was the file made so short that it lost the place, by a call that was answered or cut?
unfoldable pub cuts_off : ℕ → ℕ → Call → Bool
cuts_off i o (find d n) = false
cuts_off i o (make_file d n) = false
cuts_off i o (make_dir d n) = false
cuts_off i o (remove d n) = false
cuts_off i o (rename d n e m) = false
cuts_off i o (list d k) = false
cuts_off i o (size j) = false
cuts_off i o (read j p) = false
cuts_off i o (write j p b) = false
cuts_off i o (resize j n) = eqb i j && leb n o
cuts_off i o (sync_file j) = false
cuts_off i o sync_tree = false
cuts_off i o (garbled n) = false

unfoldable pub cut_off : ℕ → ℕ → List Happening → Bool
cut_off i o [] = false
cut_off i o (was_told c a ∷ hs) = cuts_off i o c || cut_off i o hs
cut_off i o (was_cut c ∷ hs) = cuts_off i o c || cut_off i o hs
cut_off i o (power_went ∷ hs) = cut_off i o hs

pub data Among (b : Block) : List Block → Type 0 where
  here : (bs : List Block) → Among b (b ∷ bs)
  there : (c : Block) (bs : List Block) → Among b bs → Among b (c ∷ bs)

-- a place of a file has what it had, or something written to it since
abbrev pub OldOrWritten : Fs → List Happening → Fs → ℕ → ℕ → Type 0
OldOrWritten u hs s i o =
    (o < length (cells (body_of s.tree i)))
    × Among (get_or s.cells (cell_at s i o) empty_cell).now ((get_or u.cells (cell_at u i o) empty_cell).now ∷ writes i o hs)

-- 15. Once a file and the tree were synced, in either order, each place of the file has, after any later calls and losses
-- of power, what it had then or something written to it since, for as long as the file is there and was not made too short
-- for the place.
unfoldable pub FileLasts : (ℕ → Bool) → Type 0
FileLasts can = Ever can (λ l u. (i o : ℕ) (hs : List Happening) (s : Fs) →
    o < length (cells (body_of u.tree i)) → turned l u (sync_file i) ≡ 0 → turned l u sync_tree ≡ 0 →
    (Leads l (after l (after l u (sync_file i)) sync_tree) hs s ⊎ Leads l (after l (after l u sync_tree) (sync_file i)) hs s) →
    is_file (body_of s.tree i) ≡ true → cut_off i o hs ≡ false → OldOrWritten u hs s i o)

-- 16. Every tree that power may bring back is one that the laws allow.
unfoldable pub AllLawful : (ℕ → Bool) → Type 0
AllLawful can = Ever can (λ l s. (n : ℕ) → Lawful (tree_at s n))
