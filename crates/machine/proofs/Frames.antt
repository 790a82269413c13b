-- What acts leave as it was, what they put, and that a new disk stands for the new file system.
use Rattle.std.proofs.Common.{◌≡◌, ℕ, zero, suc, ◌+◌, ◌<◌, ◌≤◌, Bool, true, false, not, ◌&&◌, eqb, ◌⊎◌, List, [], ◌∷◌, length, get_or, take, set, sym, refl, ap, ◌∙◌, subst, inl, inr, ⊎_elim, zero-le, not-suc-le-zero, arith, length-set}
use lib.ListN.{length-replicate}
use Rattle.std.proofs.lemmas.List.{get_or-set_same}
use Rattle.std.proofs.lemmas.Bool.{eqb-false, ne_eqb, and_parts, and_from, or_parts, not-true, not_from_false, false≢true}
use Rattle.model.specs.Tree.{Tree, new_tree, cells, all_cells}
use Rattle.model.specs.Calls.{Block, empty_block}
use Rattle.model.specs.Refusals.{Limits}
use Rattle.model.specs.Fs.{Cell, new_fs, empty_cell, is_in, cells_of, written, kept}
use Rattle.model.specs.World.{Act, put_block, keep_all, Disk, did, did_all, seen, blocks_for, Fit}
use Rattle.machine.specs.State.{Sized, counts_of, State, ren_body, ren_nodes, replay}
use Rattle.machine.specs.Program.{Root, Encoding, area_start, puts, zeros, wakes, program}
use Rattle.machine.specs.Fits.{ok_journal}
use Rattle.machine.proofs.Invariant.{still, Stored, Laws, Idle, SomeIdle}
use Rattle.machine.proofs.Lists.{get_or_set_apart}
use Rattle.machine.proofs.Disks.{get_d_kept, length-did_all, did_all-append}
use Rattle.machine.proofs.Power.{stored_loads}
use Rattle.machine.proofs.Histories.{NewGoes}

-- no act is on a block, or keeps
unfoldable pub avoids : ℕ → List Act → Bool
avoids j [] = true
avoids j (put_block k b ∷ xs) = not (eqb k j) && avoids j xs
avoids j (keep_all ∷ xs) = false

pub frame : (j : ℕ) (xs : List Act) (d : Disk) → avoids j xs ≡ true → get_or (did_all xs d) j empty_cell ≡ get_or d j empty_cell
unfolding avoids did_all did
frame j [] d h = refl
frame j (put_block k b ∷ xs) d h =
    let p = and_parts (not (eqb k j)) (avoids j xs) h in
    frame j xs (did (put_block k b) d) p.1
    ∙ get_or_set_apart empty_cell d k j (written (get_or d k empty_cell) b) (eqb-false k j (not-true (eqb k j) p.0))
frame j (keep_all ∷ xs) d h = absurd (false≢true h)

pub avoids-take : (j n : ℕ) (xs : List Act) → avoids j xs ≡ true → avoids j (take n xs) ≡ true
unfolding avoids
avoids-take j zero xs h = refl
avoids-take j (suc n) [] h = refl
avoids-take j (suc n) (put_block k b ∷ xs) h =
    let p = and_parts (not (eqb k j)) (avoids j xs) h in
    and_from (not (eqb k j)) (avoids j (take n xs)) p.0 (avoids-take j n xs p.1)
avoids-take j (suc n) (keep_all ∷ xs) h = h

pub avoids_puts : (j k : ℕ) (bs : List Block) → (j < k) ⊎ (k + length bs ≤ j) → avoids j (puts k bs) ≡ true
unfolding avoids puts
avoids_puts j k [] h = refl
avoids_puts j k (b ∷ bs) h = and_from (not (eqb k j)) (avoids j (puts (suc k) bs))
    (not_from_false (eqb k j) (ne_eqb k j (λ e. omega arith)))
    (avoids_puts j (suc k) bs (⊎_elim (λ p. inl (omega arith)) (λ p. inr (omega arith)) h))

pub avoids_zeros : (x : ℕ) (ks : List ℕ) → is_in x ks ≡ false → avoids (suc x) (zeros ks) ≡ true
unfolding avoids zeros is_in
avoids_zeros x [] h = refl
avoids_zeros x (k ∷ ks) h =
    let p = or_parts (eqb x k) (is_in x ks) h in
    and_from (not (eqb (suc k) (suc x))) (avoids (suc x) (zeros ks))
    (not_from_false (eqb (suc k) (suc x)) (ne_eqb (suc k) (suc x) (λ e. eqb-false x k p.0 (omega arith))))
    (avoids_zeros x ks p.1)

pub avoids_top : (ks : List ℕ) → avoids 0 (zeros ks) ≡ true
unfolding avoids zeros
avoids_top [] = refl
avoids_top (k ∷ ks) = and_from (not (eqb (suc k) 0)) (avoids 0 (zeros ks))
    (not_from_false (eqb (suc k) 0) (ne_eqb (suc k) 0 (λ e. omega arith))) (avoids_top ks)

-- what is put is there
pub puts_now : (k : ℕ) (bs : List Block) (d : Disk) (j i : ℕ) → j < length bs → i ≡ k + j → k + length bs ≤ length d →
    (get_or (did_all (puts k bs) d) i empty_cell).now ≡ get_or bs j empty_block
unfolding puts did_all did
puts_now k [] d j i h e f = absurd (not-suc-le-zero h)
puts_now k (b ∷ bs) d zero i h e f =
    let p : k ≡ i = omega arith in
    ap (λ (c : Cell). c.now) (frame i (puts (suc k) bs) (did (put_block k b) d) (avoids_puts i (suc k) bs (inl (omega arith)))
    ∙ (ap (λ (x : ℕ). get_or (set d k (written (get_or d k empty_cell) b)) x empty_cell) (sym p)
    ∙ get_or-set_same d k (written (get_or d k empty_cell) b) empty_cell (omega arith)))
puts_now k (b ∷ bs) d (suc j) i h e f =
    puts_now (suc k) bs (did (put_block k b) d) j i (omega arith) (omega arith) (rw length-set (omega arith))

-- a new disk
module _ (k : Encoding) (Fits : Limits → Tree → Type 0) (laws : Laws k Fits) (l : Limits) (gl : Sized l) where
  -- the area of a row is behind the data blocks
  pub past_room : (r : Bool) (j : ℕ) → l.room < area_start k l r + j
  unfolding area_start
  past_room false j = omega arith
  past_room true j = omega arith

  pub area_ends : (r : Bool) (t : Tree) → Fits l t → area_start k l r + length (k.checkpoint l t) ≤ blocks_for l
  unfolding area_start
  area_ends false t ft = let a = laws.area_short l t gl ft in let b = laws.areas_fit l gl in omega arith
  area_ends true t ft = let a = laws.area_short l t gl ft in let b = laws.areas_fit l gl in omega arith

  abbrev new_root : Root
  new_root = record { live = false; journal = []; base = new_tree }

  new_stored : (d : Disk) → Fit l d → Stored k l (did_all ((program k).makes l) d) new_root new_tree
  unfolding did did_all replay
  new_stored d fit =
      let bs : List Block = k.checkpoint l new_tree in
      let b : ℕ = area_start k l false in
      let sup : Block = k.superblock l false (counts_of new_tree) [] in
      let e : Disk = did_all (puts b bs) d in
      let len : length e ≡ length d = length-did_all (puts b bs) d in
      let ends = area_ends false new_tree (laws.fits_new l gl) in
      let w : Disk = set e 0 (written (get_or e 0 empty_cell) sup) in
      rw (did_all-append (puts b bs) (put_block 0 sup ∷ keep_all ∷ []) d) (record {
        top = get_d_kept w 0 ∙ ap kept (get_or-set_same e 0 (written (get_or e 0 empty_cell) sup) empty_cell (omega arith));
        rest = λ j h. get_d_kept w (b + j)
            ∙ (ap kept (get_or_set_apart empty_cell e 0 (b + j) (written (get_or e 0 empty_cell) sup) (λ p. let q = past_room false j in
            omega arith))
            ∙ ap still (puts_now b bs d j (b + j) h refl (omega arith)));
        replays = refl;
      })

  new_idle : (d : Disk) → Fit l d → SomeIdle k Fits l new_fs (did_all ((program k).makes l) d)
      (wakes k l (seen (did_all ((program k).makes l) d)))
  unfolding cells_of all_cells cells is_in ren_nodes ren_body replay ok_journal
  new_idle d fit =
      let e : Disk = did_all ((program k).makes l) d in (
        [],
        subst (λ (st : State). Idle k Fits l new_fs e st [])
            (sym (stored_loads k Fits laws l gl e new_root new_tree (length-did_all ((program k).makes l) d ∙ fit) (laws.fits_new l gl)
            (laws.fits_none l) refl (new_stored d fit))) (record {
              tree_is = refl;
              older_is = refl;
              held_bits = refl;
              few = zero-le;
              tree_fits = laws.fits_new l gl;
              all_placed = record {
                within = λ c h. absurd (false≢true h);
                below = λ c h. absurd (false≢true h);
                apart =
                    λ c f h i p. absurd (false≢true h);
              };
              fresh_long = length-replicate l.room false;
              fresh_is = λ c h e. absurd (false≢true h);
              now_is = λ c h e. absurd (false≢true h);
              root = new_root;
              live_is = refl;
              base_is = refl;
              journal_fits = laws.fits_none l;
              journal_ok = refl;
              journal_is = λ e. refl;
              safe = record {
                size = length-did_all ((program k).makes l) d ∙ fit;
                long = refl;
                placed = record {
                  within = λ c h. absurd (false≢true h);
                  below = λ c h. absurd (false≢true h);
                  apart =
                      λ c f h i p. absurd (false≢true h);
                };
                fits = laws.fits_new l gl;
                base_fits = laws.fits_new l gl;
                journal_fits = laws.fits_none l;
                journal_ok = refl;
                stored = new_stored d fit;
                covered = λ c h. absurd (false≢true h);
              };
            }),
      )

pub new_goes : (k : Encoding) (Fits : Limits → Tree → Type 0) → Laws k Fits → NewGoes k Fits
new_goes k Fits laws l d gl fit = new_idle k Fits laws l gl d fit
