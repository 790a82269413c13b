-- WHAT IS PROMISED of a program, each promise a type whose proof is owed elsewhere. Definitions only.
use Rattle.std.specs.Prelude.{◌≡◌, Bool, true, cond, not, ◌&&◌, ◌||◌, List, [], ◌∷◌, ℕ, ◌+◌, ◌*◌, ◌≤◌, ◌<◌, ltb, eqb, length}
use Rattle.model.specs.Calls.{Call, refused, call_number, looks, readable, bytes}
use Rattle.model.specs.Refusals.{Limits}
use Rattle.model.specs.Fs.{Fs, new_fs, answer, after, lost}
use Rattle.model.specs.World.{Act, put_block, keep_all, seen, Program, Happening, was_told, was_cut, power_went, Under, World, blocks_for}
use Rattle.model.specs.World.{Lived}

-- the calls of the first stage: files in directory 0. No directory is made, nothing renamed, no file synced by itself
abbrev pub thin : ℕ → Bool
thin k = not (eqb k 2 || (eqb k 4 || eqb k 10))

-- and all calls
abbrev pub all : ℕ → Bool
all k = true

-- limits that may be, with a given set of calls
abbrev pub GoodLimits : (ℕ → Bool) → Limits → Type 0
GoodLimits can l =
    (l.room ≤ 65536) × (1 ≤ l.nodes_most) × (l.nodes_most ≤ 4096) × (1 ≤ l.pending) × (l.pending ≤ 256) ×
    ((k : ℕ) → l.calls_can k ≡ can k)

-- WHAT EXPLAINS WHAT HAPPENED. From one file system to another: each answer is the one that the file system gives; of a
-- call that was cut, power leaves something of the file system before it, or of the one after it.
pub data Leads (l : Limits) (o : Fs) : List Happening → Fs → Type 0 where
  at_first : Leads l o [] o
  told : {hs : List Happening} {s : Fs} (c : Call) → Leads l o hs s →
      Leads l o (was_told c (answer l s c) ∷ hs) (after l s c)
  cut_late : {hs : List Happening} {s : Fs} (c : Call) (n : ℕ) (g : ℕ → ℕ) → Leads l o hs s →
      Leads l o (was_cut c ∷ hs) (lost n g (after l s c))
  cut_early : {hs : List Happening} {s : Fs} (c : Call) (n : ℕ) (g : ℕ → ℕ) → Leads l o hs s →
      Leads l o (was_cut c ∷ hs) (lost n g s)
  gone : {hs : List Happening} {s : Fs} (n : ℕ) (g : ℕ → ℕ) → Leads l o hs s →
      Leads l o (power_went ∷ hs) (lost n g s)

abbrev pub Explains : Limits → List Happening → Fs → Type 0
Explains l hs s = Leads l new_fs hs s

-- only calls that bytes can carry
unfoldable pub all_readable : List Happening → Bool
all_readable [] = true
all_readable (was_told c a ∷ hs) = readable c && all_readable hs
all_readable (was_cut c ∷ hs) = readable c && all_readable hs
all_readable (power_went ∷ hs) = all_readable hs

-- THE MAIN PROMISE: whatever happens, and whenever power goes, there is a file system that explains all answers
unfoldable pub Right : (ℕ → Bool) → Program → Type 0
Right can f =
    (l : Limits) (w : World) → GoodLimits can l → Lived f l w → all_readable w.past ≡ true →
    (s : Fs) × Explains l w.past s

-- WORK IS BOUNDED: mending, at any time, and a call, when none is under way, have at most twice as many acts as there are
-- blocks
unfoldable pub ComesToAnEnd : (ℕ → Bool) → Program → Type 0
ComesToAnEnd can f =
    (l : Limits) (w : World) → GoodLimits can l → Lived f l w → all_readable w.past ≡ true →
    (length (f.mends l (seen w.disk)) ≤ 2 * blocks_for l)
    × ((c : Call) → readable c ≡ true → w.up ≡ true → w.todo ≡ [] → w.under ≡ [] →
    length (f.does l w.memory (seen w.disk) c) ≤ 2 * blocks_for l)

unfoldable pub all_below : ℕ → List ℕ → Bool
all_below b [] = true
all_below b (x ∷ xs) = ltb x b && all_below b xs

-- only blocks of the disk are put, with 4,096 bytes each
unfoldable pub good_acts : ℕ → List Act → Bool
good_acts n [] = true
good_acts n (put_block k b ∷ xs) = (ltb k n && (eqb (length b) 4096 && bytes b)) && good_acts n xs
good_acts n (keep_all ∷ xs) = good_acts n xs

-- the call under way, if any, is one that bytes can carry
unfoldable pub under_readable : List Under → Bool
under_readable [] = true
under_readable (u ∷ us) = readable u.call && under_readable us

-- how many numbers of eight bytes memory may have
abbrev pub memory_for : Limits → ℕ
memory_for l = 16 * l.room + (64 * l.nodes_most + (64 * l.pending + 1024))

-- MEMORY STAYS SMALL, its numbers are numbers of eight bytes, and all acts stay on the disk
unfoldable pub StaysSmall : (ℕ → Bool) → Program → Type 0
StaysSmall can f =
    (l : Limits) (w : World) → GoodLimits can l → Lived f l w → all_readable w.past ≡ true →
    under_readable w.under ≡ true →
    (length w.memory ≤ memory_for l) × (all_below 18446744073709551616 w.memory ≡ true)
    × (good_acts (blocks_for l) w.todo ≡ true)

-- LOOKING does nothing to the disk
unfoldable pub LookingDoesNothing : (ℕ → Bool) → Program → Type 0
LookingDoesNothing can f =
    (l : Limits) (w : World) (c : Call) → GoodLimits can l → Lived f l w → all_readable w.past ≡ true →
    readable c ≡ true → looks c ≡ true → w.up ≡ true → w.todo ≡ [] → w.under ≡ [] →
    f.does l w.memory (seen w.disk) c ≡ []

-- and so does WHAT IS REFUSED
unfoldable pub RefusingDoesNothing : (ℕ → Bool) → Program → Type 0
RefusingDoesNothing can f =
    (l : Limits) (w : World) (c : Call) (r p : ℕ) → GoodLimits can l → Lived f l w → all_readable w.past ≡ true →
    readable c ≡ true → w.up ≡ true → w.todo ≡ [] → w.under ≡ [] →
    f.says l w.memory (seen w.disk) c ≡ refused r p → f.does l w.memory (seen w.disk) c ≡ []

-- WHAT BYTES CARRY: each call that bytes can carry is read back from its bytes as it was written
unfoldable pub Carried : (Call → List ℕ) → (List ℕ → Call) → Type 0
Carried write-out read-in =
    (c : Call) → readable c ≡ true → 0 < (cond (eqb (call_number c) 255) 0 1) → read-in (write-out c) ≡ c
