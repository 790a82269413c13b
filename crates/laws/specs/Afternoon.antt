-- ONE AFTERNOON: a file system with six cells, six nodes and three older trees is asked 29 calls. The table says what each
-- answers, and how many cells are held and how many older trees there are after it; and what power may leave at the end.
-- Definitions only.
use Rattle.std.specs.Prelude.{◌≡◌, ℕ, suc, List, [], ◌∷◌, length, replicate, slice_index_or}
use Rattle.model.specs.Tree.{Name}
use Rattle.model.specs.Calls.{Block, empty_block, Call, find, make_file, make_dir, remove, rename, list, size, read, write, resize}
use Rattle.model.specs.Calls.{sync_tree, Answer, refused, done, number, entry, block}
use Rattle.model.specs.Refusals.{Limits}
use Rattle.model.specs.Fs.{Fs, new_fs, held, answer, after, lost}
use Rattle.model.specs.Promise.{all}

abbrev pub six : Limits
six = record { calls_can = all; room = 6; nodes_most = 6; pending = 3 }

-- names of one byte
abbrev pub a : Name
a = 97 ∷ []

abbrev pub d : Name
d = 100 ∷ []

abbrev pub e : Name
e = 101 ∷ []

abbrev pub t : Name
t = 116 ∷ []

abbrev pub ones : Block
ones = replicate 4096 1

abbrev pub twos : Block
twos = replicate 4096 2

abbrev pub threes : Block
threes = replicate 4096 3

-- a call, its answer, and the cells held and the older trees after it
pub data Line : Type 0 where
  line : Call → Answer → ℕ → ℕ → Line

abbrev pub table : List Line
table =
    line (make_file 0 a) (number 1) 0 1 ∷
    line (make_file 0 a) (refused 6 0) 0 1 ∷
    line (resize 1 2) done 2 2 ∷
    line (write 1 0 ones) done 2 2 ∷
    line (write 1 2 ones) (refused 10 0) 2 2 ∷
    line (read 1 0) (block ones) 2 2 ∷
    line (read 1 1) (block empty_block) 2 2 ∷
    line sync_tree done 2 0 ∷
    line (make_dir 0 d) (number 2) 2 1 ∷
    line (make_file 2 t) (number 3) 2 2 ∷
    line (resize 3 2) done 4 3 ∷
    line (rename 2 t 0 a) (refused 9 0) 4 3 ∷
    line sync_tree done 4 0 ∷
    line (rename 0 d 2 e) (refused 7 0) 4 0 ∷
    line (remove 0 d) (refused 7 0) 4 0 ∷
    line (find 0 a) (number 1) 4 0 ∷
    line (rename 2 t 0 a) done 4 1 ∷
    line (find 0 a) (number 3) 4 1 ∷
    line (size 1) (refused 4 0) 4 1 ∷
    line (resize 3 5) (refused 8 0) 4 1 ∷
    line sync_tree done 2 0 ∷
    line (resize 3 5) done 5 1 ∷
    line (list 0 0) (entry d 2) 5 1 ∷
    line (list 0 1) (entry a 3) 5 1 ∷
    line (list 0 2) (refused 5 0) 5 1 ∷
    line (resize 3 7) (refused 8 0) 5 1 ∷
    line (remove 0 d) done 5 2 ∷
    line (write 3 0 twos) done 5 2 ∷
    line (write 3 0 threes) done 5 2 ∷
    []

-- a table is right where each line is, and then it leads from one file system to another
pub data Goes (l : Limits) : Fs → List Line → Fs → Type 0 where
  ends : {s : Fs} → Goes l s [] s
  goes_on : {s end : Fs} {c : Call} {says : Answer} {cells older : ℕ} {xs : List Line} → answer l s c ≡ says →
      held (after l s c) ≡ cells → length (after l s c).older ≡ older → Goes l (after l s c) xs end →
      Goes l s (line c says cells older ∷ xs) end

-- what power leaves then: is there d, how many places has file 3, and what is in its place 0. That is what was written last,
-- or before that, or zeros, whichever of the three is chosen for cell 2
abbrev pub Left : (ℕ → ℕ) → Answer → ℕ → Fs → Type 0
Left g by-d places s =
    (answer six s (find 0 d) ≡ by-d) × (answer six s (size 3) ≡ number places)
    × (answer six s (read 3 0) ≡ block (slice_index_or (threes ∷ (twos ∷ (empty_block ∷ []))) (g 2) threes))

-- one of three trees: the newest, without d; the one before, with d; and the one before that, where file 3 has two places.
-- Past the last of them, it is the newest
unfoldable pub Afternoon : Type 0
Afternoon =
    (end : Fs) × Goes six new_fs table end
    × ((g : ℕ → ℕ) →
    Left g (refused 5 0) 5 (lost 0 g end) × Left g (number 2) 5 (lost 1 g end) × Left g (number 2) 2 (lost 2 g end)
    × ((n : ℕ) → lost (suc (suc (suc n))) g end ≡ lost 0 g end))
