-- THE WORLD: a disk that may forget, a program over it, and everything that can happen to the two. Definitions only.
use Rattle.std.specs.Prelude.{◌≡◌, Bool, true, false, ◌&&◌, List, [], ◌∷◌, ℕ, ◌+◌, ◌*◌, eqb, length, get_or, set}
use Rattle.model.specs.Calls.{Block, Call, Answer, bytes}
use Rattle.model.specs.Refusals.{Limits}
use Rattle.model.specs.Fs.{Cell, empty_cell, written, kept, chosen}

-- A disk is a row of blocks of 4,096 bytes, each with what it has now and what it may have after power is lost.
abbrev pub Disk : Type 0
Disk = List Cell

-- an act is one thing done to a disk: a block is put, whole, or all that was put is kept
pub data Act : Type 0 where
  put_block : ℕ → Block → Act
  keep_all : Act

unfoldable pub kept_disk : Disk → Disk
kept_disk [] = []
kept_disk (c ∷ cs) = kept c ∷ kept_disk cs

unfoldable pub did : Act → Disk → Disk
did (put_block k b) d = set d k (written (get_or d k empty_cell) b)
did keep_all d = kept_disk d

unfoldable pub did_all : List Act → Disk → Disk
did_all [] d = d
did_all (x ∷ xs) d = did_all xs (did x d)

-- what a program sees of a disk: what each block has now
unfoldable pub seen : Disk → List Block
seen [] = []
seen (c ∷ cs) = c.now ∷ seen cs

-- how many blocks a disk has for given limits
abbrev pub blocks_for : Limits → ℕ
blocks_for l = 2 * l.room + (4 * l.nodes_most + (4 * l.pending + 1024))

abbrev pub Fit : Limits → Disk → Type 0
Fit l d = length d ≡ blocks_for l

-- all that a block has or may have are 4,096 bytes
unfoldable pub whole_blocks : List Block → Bool
whole_blocks [] = true
whole_blocks (b ∷ bs) = (eqb (length b) 4096 && bytes b) && whole_blocks bs

unfoldable pub whole_disk : Disk → Bool
whole_disk [] = true
whole_disk (c ∷ cs) = whole_blocks (c.now ∷ c.maybe) && whole_disk cs

-- A program: the acts that make a new disk; the acts that mend one when it starts, and its memory then; and of a call the
-- answer, the acts, in order, and the memory when they are done. Memory is a list of numbers. All of it is worked out
-- from memory and from what is seen when the call begins, or the start.
pub record Program : Type 0 where
  pub makes : Limits → List Act
  pub mends : Limits → List Block → List Act
  pub starts : Limits → List Block → List ℕ
  pub says : Limits → List ℕ → List Block → Call → Answer
  pub does : Limits → List ℕ → List Block → Call → List Act
  pub keeps : Limits → List ℕ → List Block → Call → List ℕ

-- what whoever calls has seen: an answer; power going during a call, which then has no answer; power going otherwise
pub data Happening : Type 0 where
  was_told : Call → Answer → Happening
  was_cut : Call → Happening
  power_went : Happening

-- a call under way: its answer and the memory after it are worked out, and hold once its acts are done
pub record Under : Type 0 where
  pub call : Call
  pub answer : Answer
  pub memory : List ℕ

pub record World : Type 0 where
  pub disk : Disk
  pub memory : List ℕ
  pub up : Bool  -- false from when power went until all is mended
  pub todo : List Act  -- acts that are still to be done
  pub under : List Under  -- the call under way: none or one
  pub past : List Happening  -- the last first

unfoldable pub cut : List Under → List Happening → List Happening
cut [] hs = power_went ∷ hs
cut (u ∷ us) hs = was_cut u.call ∷ hs

-- a new disk: power does not go while it is made, and what was on it does not matter
abbrev pub made_disk : Program → Limits → Disk → Disk
made_disk f l d = did_all (f.makes l) d

-- EVERYTHING THAT CAN HAPPEN, in any order: a new disk is made and the program started; a call begins, if none is under
-- way; the next act is done; when all are, the call is answered; power goes, and each block has one of what it has or may
-- have; the program starts again and mends, and power may go while it does.
pub data Lived (f : Program) (l : Limits) : World → Type 0 where
  new : (d : Disk) → Fit l d → whole_disk d ≡ true →
      Lived f l (record {
        disk = made_disk f l d;
        memory = f.starts l (seen (made_disk f l d));
        up = true;
        todo = [];
        under = [];
        past = [];
      })
  begins : {w : World} (c : Call) → Lived f l w → w.up ≡ true → w.todo ≡ [] → w.under ≡ [] →
      Lived f l (record {
        disk = w.disk;
        memory = w.memory;
        up = true;
        todo = f.does l w.memory (seen w.disk) c;
        under = record {
          call = c;
          answer = f.says l w.memory (seen w.disk) c;
          memory = f.keeps l w.memory (seen w.disk) c;
        } ∷ [];
        past = w.past;
      })
  one_done : {w : World} (x : Act) (xs : List Act) → Lived f l w → w.todo ≡ x ∷ xs →
      Lived f l (record {
        disk = did x w.disk;
        memory = w.memory;
        up = w.up;
        todo = xs;
        under = w.under;
        past = w.past;
      })
  answered : {w : World} (u : Under) → Lived f l w → w.up ≡ true → w.todo ≡ [] → w.under ≡ u ∷ [] →
      Lived f l (record {
        disk = w.disk;
        memory = u.memory;
        up = true;
        todo = [];
        under = [];
        past = was_told u.call u.answer ∷ w.past;
      })
  power : {w : World} (g : ℕ → ℕ) → Lived f l w → w.up ≡ true →
      Lived f l (record {
        disk = chosen g 0 w.disk;
        memory = [];
        up = false;
        todo = f.mends l (seen (chosen g 0 w.disk));
        under = [];
        past = cut w.under w.past;
      })
  power_again : {w : World} (g : ℕ → ℕ) → Lived f l w → w.up ≡ false →
      Lived f l (record {
        disk = chosen g 0 w.disk;
        memory = [];
        up = false;
        todo = f.mends l (seen (chosen g 0 w.disk));
        under = [];
        past = w.past;
      })
  mended : {w : World} → Lived f l w → w.up ≡ false → w.todo ≡ [] →
      Lived f l (record {
        disk = w.disk;
        memory = f.starts l (seen w.disk);
        up = true;
        todo = [];
        under = [];
        past = w.past;
      })
