-- Disks: what a block has after an act, a keep or a loss of power; and what may be left of it.
use Rattle.std.proofs.Common.{◌≡◌, ℕ, zero, suc, ◌+◌, ◌<◌, List, [], ◌∷◌, ◌++◌, length, get_or, sym, refl, ap, ◌∙◌, ⊎_elim, not-suc-le-zero, zero-add, arith, length-set}
use Rattle.model.specs.Calls.{Block, empty_block}
use Rattle.model.specs.Fs.{Cell, empty_cell, chosen, written, kept}
use Rattle.model.specs.World.{Act, put_block, keep_all, Disk, kept_disk, did, did_all, seen}
use Rattle.machine.proofs.Invariant.{still, left, Covers}
use Rattle.machine.proofs.Lists.{get_or_either}

-- what a disk has at a place, after power went, an act, a keep
pub get_or_chosen_from : (e : Cell) (g : ℕ → ℕ) (k : ℕ) (d : List Cell) (j i : ℕ) → j < length d → i ≡ k + j →
    get_or (chosen g k d) j e ≡ still (left (get_or d j e) (g i))
unfolding chosen
get_or_chosen_from e g k [] j i h p = absurd (not-suc-le-zero h)
get_or_chosen_from e g k (c ∷ cs) zero i h p = let q : k ≡ i = omega arith in rw q
get_or_chosen_from e g k (c ∷ cs) (suc j) i h p = get_or_chosen_from e g (suc k) cs j i (omega arith) (omega arith)

pub get_or-chosen : (e : Cell) (g : ℕ → ℕ) (d : List Cell) (j : ℕ) → j < length d →
    get_or (chosen g 0 d) j e ≡ still (left (get_or d j e) (g j))
get_or-chosen e g d j h = get_or_chosen_from e g 0 d j j h (sym (zero-add j))

pub get_or-seen : (d : Disk) (j : ℕ) → get_or (seen d) j empty_block ≡ (get_or d j empty_cell).now
unfolding seen
get_or-seen [] j = refl
get_or-seen (c ∷ cs) zero = refl
get_or-seen (c ∷ cs) (suc j) = get_or-seen cs j

pub length_seen : (d : Disk) → length (seen d) ≡ length d
unfolding seen
length_seen [] = refl
length_seen (c ∷ cs) = ap suc (length_seen cs)

pub get_d_kept : (d : Disk) (j : ℕ) → get_or (kept_disk d) j empty_cell ≡ kept (get_or d j empty_cell)
unfolding kept_disk
get_d_kept [] j = refl
get_d_kept (c ∷ cs) zero = refl
get_d_kept (c ∷ cs) (suc j) = get_d_kept cs j

pub length-kept : (d : Disk) → length (kept_disk d) ≡ length d
unfolding kept_disk
length-kept [] = refl
length-kept (c ∷ cs) = ap suc (length-kept cs)

pub length-did : (x : Act) (d : Disk) → length (did x d) ≡ length d
unfolding did
length-did (put_block k b) d = length-set d k (written (get_or d k empty_cell) b)
length-did keep_all d = length-kept d

pub length-did_all : (xs : List Act) (d : Disk) → length (did_all xs d) ≡ length d
unfolding did_all
length-did_all [] d = refl
length-did_all (x ∷ xs) d = length-did_all xs (did x d) ∙ length-did x d

pub did_all-append : (xs ys : List Act) (d : Disk) → did_all (xs ++ ys) d ≡ did_all ys (did_all xs d)
unfolding did_all
did_all-append [] ys d = refl
did_all-append (x ∷ xs) ys d = did_all-append xs ys (did x d)

-- what may be left of cells
pub left_still : (b : Block) (j : ℕ) → left (still b) j ≡ b
left_still b zero = refl
left_still b (suc j) = refl

pub covers_kept : (x y : Cell) → x.now ≡ y.now → Covers (kept x) y
covers_kept x y e zero = (0, sym e)
covers_kept x y e (suc j) = (0, sym e)

pub covers_keep : (x y : Cell) → Covers x y → Covers (kept x) y
covers_keep x y h zero = h 0
covers_keep x y h (suc j) = h 0

pub covers_written : (x y : Cell) (b : Block) → Covers x y → Covers (written x b) (written y b)
covers_written x y b h zero = (0, refl)
covers_written x y b h (suc j) = ⊎_elim
    (λ p. ⊎_elim
    (λ q. (suc (h j).0, q b y.now ∙ ((h j).1 ∙ p x.now b)))
    (λ q. (1, sym (q y.now) ∙ ((h j).1 ∙ p x.now b)))
    (get_or_either (y.now ∷ y.maybe) (h j).0))
    (λ p. (0, sym (p b)))
    (get_or_either (x.now ∷ x.maybe) j)
