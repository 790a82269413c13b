-- All blocks of a disk stay whole, 4,096 bytes each: what is put is, and power leaves one of what a block had.
use Rattle.std.proofs.Common.{◌≡◌, ℕ, zero, suc, Bool, true, false, ◌&&◌, ltb, List, [], ◌∷◌, get_or, set, refl, ap, ◌∙◌, subst, arith}
use Rattle.std.proofs.lemmas.Bool.{lt-ltb, and_parts, and_from}
use Rattle.model.specs.Tree.{Tree, new_tree}
use Rattle.model.specs.Calls.{Block, readable}
use Rattle.model.specs.Refusals.{Limits}
use Rattle.model.specs.Fs.{Fs, empty_cell, written, chosen}
use Rattle.model.specs.World.{Act, put_block, keep_all, Disk, kept_disk, did, did_all, seen, blocks_for, whole_blocks, whole_disk}
use Rattle.model.specs.World.{Happening, Under, cut, World, Lived, new, begins, one_done, answered, power, power_again, mended}
use Rattle.model.specs.Promise.{GoodLimits, all_readable, good_acts, under_readable, StaysSmall}
use Rattle.machine.specs.State.{Sized, counts_of}
use Rattle.machine.specs.Program.{Encoding, area_start, puts, making_acts, program}
use Rattle.machine.specs.Fits.{ok_journal}
use Rattle.machine.proofs.Invariant.{Laws, good_block}
use Rattle.machine.proofs.Frames.{area_ends}
use Rattle.machine.proofs.Sync.{good_append, good_puts}
use Rattle.machine.proofs.Histories.{good_tail, Now, turn, cut_readable}
use Rattle.machine.proofs.Calls.{good, small}

-- of a row of blocks any is whole
whole_at : (bs : List Block) (j : ℕ) (b : Block) → whole_blocks bs ≡ true → good_block b ≡ true → good_block (get_or bs j b) ≡ true
unfolding whole_blocks
whole_at [] j b h g = g
whole_at (c ∷ bs) zero b h g = (and_parts (good_block c) (whole_blocks bs) h).0
whole_at (c ∷ bs) (suc j) b h g = whole_at bs j b (and_parts (good_block c) (whole_blocks bs) h).1 g

-- a block is put, all are kept, power goes
whole_put : (d : Disk) (k : ℕ) (b : Block) → whole_disk d ≡ true → good_block b ≡ true →
    whole_disk (set d k (written (get_or d k empty_cell) b)) ≡ true
unfolding whole_disk whole_blocks
whole_put [] k b h g = refl
whole_put (c ∷ cs) zero b h g =
    let p = and_parts (whole_blocks (c.now ∷ c.maybe)) (whole_disk cs) h in
    and_from (whole_blocks (b ∷ c.now ∷ c.maybe)) (whole_disk cs)
    (and_from (good_block b) (whole_blocks (c.now ∷ c.maybe)) g p.0) p.1
whole_put (c ∷ cs) (suc k) b h g =
    let p = and_parts (whole_blocks (c.now ∷ c.maybe)) (whole_disk cs) h in
    and_from (whole_blocks (c.now ∷ c.maybe)) _ p.0 (whole_put cs k b p.1 g)

whole_kept : (d : Disk) → whole_disk d ≡ true → whole_disk (kept_disk d) ≡ true
unfolding whole_disk whole_blocks kept_disk
whole_kept [] h = refl
whole_kept (c ∷ cs) h =
    let p = and_parts (whole_blocks (c.now ∷ c.maybe)) (whole_disk cs) h in
    let q = and_parts (good_block c.now) (whole_blocks c.maybe) p.0 in
    and_from (whole_blocks (c.now ∷ [])) (whole_disk (kept_disk cs)) (and_from (good_block c.now) true q.0 refl)
    (whole_kept cs p.1)

whole_chosen : (g : ℕ → ℕ) (k : ℕ) (d : Disk) → whole_disk d ≡ true → whole_disk (chosen g k d) ≡ true
unfolding whole_disk whole_blocks chosen
whole_chosen g k [] h = refl
whole_chosen g k (c ∷ cs) h =
    let p = and_parts (whole_blocks (c.now ∷ c.maybe)) (whole_disk cs) h in
    let q = and_parts (good_block c.now) (whole_blocks c.maybe) p.0 in
    let b : Block = get_or (c.now ∷ c.maybe) (g k) c.now in
    and_from (whole_blocks (b ∷ [])) (whole_disk (chosen g (suc k) cs))
    (and_from (good_block b) true (whole_at (c.now ∷ c.maybe) (g k) c.now p.0 q.0) refl) (whole_chosen g (suc k) cs p.1)

-- what is seen of it
pub whole_seen : (d : Disk) → whole_disk d ≡ true → whole_blocks (seen d) ≡ true
unfolding whole_disk whole_blocks seen
whole_seen [] h = refl
whole_seen (c ∷ cs) h =
    let p = and_parts (whole_blocks (c.now ∷ c.maybe)) (whole_disk cs) h in
    and_from (good_block c.now) (whole_blocks (seen cs)) (and_parts (good_block c.now) (whole_blocks c.maybe) p.0).0
    (whole_seen cs p.1)

-- acts
whole_did : (n : ℕ) (x : Act) (xs : List Act) (d : Disk) → good_acts n (x ∷ xs) ≡ true → whole_disk d ≡ true → whole_disk (did x d) ≡ true
unfolding did good_acts
whole_did n (put_block k b) xs d h w =
    whole_put d k b w
    (and_parts (ltb k n) (good_block b) (and_parts (ltb k n && good_block b) (good_acts n xs) h).0).1
whole_did n keep_all xs d h w = whole_kept d w

whole_did_all : (n : ℕ) (xs : List Act) (d : Disk) → good_acts n xs ≡ true → whole_disk d ≡ true → whole_disk (did_all xs d) ≡ true
unfolding did_all
whole_did_all n [] d h w = w
whole_did_all n (x ∷ xs) d h w = whole_did_all n xs (did x d) (good_tail n x xs h) (whole_did n x xs d h w)

module _ (k : Encoding) (Fits : Limits → Tree → Type 0) (laws : Laws k Fits) (can : ℕ → Bool) (l : Limits) (gl : GoodLimits can l) where
  sized : Sized l
  sized = (gl.0, gl.1, gl.2, gl.3, gl.4)

  making_good : good_acts (blocks_for l) (making_acts k l) ≡ true
  unfolding good_acts ok_journal
  making_good =
      let f = laws.fits_new l sized in
      let b : Block = k.superblock l false (counts_of new_tree) [] in
      good_append (blocks_for l) (puts (area_start k l false) (k.checkpoint l new_tree)) (put_block 0 b ∷ keep_all ∷ [])
      (good_puts (blocks_for l) (area_start k l false) (k.checkpoint l new_tree) (area_ends k Fits laws l sized false new_tree f)
      (laws.area_good l new_tree sized f))
      (and_from (ltb 0 (blocks_for l) && good_block b) true
      (and_from (ltb 0 (blocks_for l)) (good_block b) (lt-ltb 0 (blocks_for l) (omega arith))
      (laws.super_good l false new_tree [] sized f (laws.fits_none l) refl)) refl)

  -- at most one call is under way, and none while power is gone
  cut_under : (s : Fs) (d : Disk) (mem : List ℕ) (up : Bool) (todo : List Act) (us : List Under) (hs : List Happening) →
      Now k Fits l s d mem up todo us → all_readable (cut us hs) ≡ true → under_readable us ≡ true
  unfolding cut all_readable under_readable
  cut_under s d mem false todo us hs n ar = ap under_readable n.1
  cut_under s d mem true todo [] hs n ar = refl
  cut_under s d mem true todo (u ∷ us) hs n ar =
      and_from (readable u.call) (under_readable us) (and_parts (readable u.call) (all_readable hs) ar).0
      (ap under_readable n.0)

  none_under : (v : World) → Lived (program k) l v → v.up ≡ false → all_readable v.past ≡ true → under_readable v.under ≡ true
  unfolding under_readable
  none_under v lv up ar =
      let g = good k Fits laws can l v gl lv ar in
      ap under_readable (turn k Fits l g.0 v false v.todo v.under up refl refl g.3).1

  pub whole_always : (w : World) → Lived (program k) l w → all_readable w.past ≡ true → under_readable w.under ≡ true →
      whole_disk w.disk ≡ true
  unfolding all_readable under_readable StaysSmall
  whole_always w (new d fit whole) ar ur = whole_did_all (blocks_for l) (making_acts k l) d making_good whole
  whole_always w (begins {w = v} c lv up todo under) ar ur = whole_always v lv ar (ap under_readable under)
  whole_always w (one_done {w = v} x xs lv todo) ar ur =
      whole_did (blocks_for l) x xs v.disk
      (subst (λ (ys : List Act). good_acts (blocks_for l) ys ≡ true) todo (small k Fits laws can l v gl lv ar ur).2)
      (whole_always v lv ar ur)
  whole_always w (answered {w = v} u lv up todo under) ar ur =
      let ps = and_parts (readable u.call) (all_readable v.past) ar in
      whole_always v lv ps.1 (ap under_readable under ∙ and_from (readable u.call) true ps.0 refl)
  whole_always w (power {w = v} f lv up) ar ur =
      let past = cut_readable v.under v.past ar in
      let g = good k Fits laws can l v gl lv past in
      whole_chosen f 0 v.disk
      (whole_always v lv past (cut_under g.0 v.disk v.memory v.up v.todo v.under v.past g.3 ar))
  whole_always w (power_again {w = v} f lv up) ar ur = whole_chosen f 0 v.disk (whole_always v lv ar (none_under v lv up ar))
  whole_always w (mended {w = v} lv up todo) ar ur = whole_always v lv ar (none_under v lv up ar)
