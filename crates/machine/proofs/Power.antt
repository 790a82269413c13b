-- When power goes, what is left of the disk stands for the last synced tree, and a start brings that tree back.
use Rattle.std.proofs.Common.{◌≡◌, ℕ, suc, ◌+◌, ◌<◌, Bool, true, false, List, length, get_or, replicate, sym, refl, ap, ◌∙◌, subst, append-nil, zero-le, arith}
use lib.ListN.{length-replicate}
use Rattle.std.proofs.lemmas.Bool.{both_ways}
use Rattle.model.specs.Tree.{Tree, all_cells}
use Rattle.model.specs.Calls.{Block, empty_block}
use Rattle.model.specs.Refusals.{Limits}
use Rattle.model.specs.Fs.{Cell, Fs, empty_cell, is_in, cells_of, chosen, lost}
use Rattle.model.specs.World.{Disk, seen, blocks_for}
use Rattle.model_facts.proofs.Cells.{length-chosen}
use Rattle.machine.specs.State.{Sized, counts_of, State, ren, synced_core}
use Rattle.machine.specs.Program.{Root, Encoding, area_start, rested, woken, wakes}
use Rattle.machine.specs.Fits.{ok_journal}
use Rattle.machine.proofs.Invariant.{at, still, left, last, last_cells, Placed, Stored, Laws, Safe, Idle, PowerGoes}
use Rattle.machine.proofs.Lists.{get_or_replicate_any}
use Rattle.machine.proofs.Disks.{get_or-chosen, get_or-seen, length_seen, left_still}
use Rattle.machine.proofs.Renaming.{all_cells_ren}

-- where nodes are on the disk
pub area_in : (k : Encoding) (Fits : Limits → Tree → Type 0) (laws : Laws k Fits) (l : Limits) (t : Tree) (r : Bool) (j : ℕ) → Sized l →
    Fits l t → j < length (k.checkpoint l t) →
    area_start k l r + j < blocks_for l
unfolding area_start
area_in k Fits laws l t false j gl ft h = let a = laws.area_short l t gl ft in let b = laws.areas_fit l gl in omega arith
area_in k Fits laws l t true j gl ft h = let a = laws.area_short l t gl ft in let b = laws.areas_fit l gl in omega arith

pub cell_in : (l : Limits) (b : ℕ) → b < l.room → suc b < blocks_for l
cell_in l b h = omega arith

pub get_or-still : (g : ℕ → ℕ) (d : Disk) (j : ℕ) (b : Block) → j < length d → get_or d j empty_cell ≡ still b →
    get_or (chosen g 0 d) j empty_cell ≡ still b
get_or-still g d j b h e = get_or-chosen empty_cell g d j h ∙ (ap (λ (x : Cell). still (left x (g j))) e ∙ ap still (left_still b (g j)))

module _ (k : Encoding) (Fits : Limits → Tree → Type 0) (laws : Laws k Fits) (l : Limits) (gl : Sized l) where
  -- what was stored is loaded
  pub stored_loads : (d : Disk) (r : Root) (t : Tree) → length d ≡ blocks_for l → Fits l r.base → k.fits l r.journal ≡ true →
      ok_journal r.journal ≡ true → Stored k l d r t → wakes k l (seen d) ≡ rested l r.live (counts_of r.base) r.journal t
  stored_loads d r t size ft lf lo sd =
      ap (woken l) (laws.loads l (seen d) r gl (length_seen d ∙ size) ft lf lo (get_or-seen d 0 ∙ ap (λ (c : Cell). c.now) sd.top)
      (λ j h. get_or-seen d (area_start k l r.live + j) ∙ ap (λ (c : Cell). c.now) (sd.rest j h)))
      ∙ ap (rested l r.live (counts_of r.base) r.journal) sd.replays

  module _ (s : Fs) (d : Disk) (r : Root) (m : List ℕ) (g : ℕ → ℕ) (sf : Safe k Fits l s d r m) where
    choose : (c : ℕ) (b : Bool) → is_in c (last_cells s) ≡ b → ℕ
    choose c true e = (sf.covered c e (g (suc (at m c)))).0
    choose c false e = 0

    chose : (c : ℕ) (b : Bool) (e : is_in c (last_cells s) ≡ b) → is_in c (last_cells s) ≡ true →
        left (get_or s.cells c empty_cell) (choose c b e) ≡ left (get_or d (suc (at m c)) empty_cell) (g (suc (at m c)))
    unfolding choose
    chose c true e h = (sf.covered c e (g (suc (at m c)))).1
    chose c false e h = absurd (both_ways (is_in c (last_cells s)) e h)

    pub what_left : ℕ → ℕ
    what_left c = choose c (is_in c (last_cells s)) refl

    stored_still : Stored k l (chosen g 0 d) r (ren (at m) (last s))
    stored_still = record {
      top = get_or-still g d 0 (k.superblock l r.live (counts_of r.base) r.journal)
          (subst (λ (n : ℕ). 0 < n) (sym sf.size) (omega arith)) sf.stored.top;
      rest = λ j h. get_or-still g d (area_start k l r.live + j) (get_or (k.checkpoint l r.base) j empty_block)
          (subst (λ (n : ℕ). area_start k l r.live + j < n) (sym sf.size)
          (area_in k Fits laws l r.base r.live j gl sf.base_fits h)) (sf.stored.rest j h);
      replays = sf.stored.replays;
    }

    block_left : (c : ℕ) → is_in c (last_cells s) ≡ true → get_or (chosen g 0 d) (suc (at m c)) empty_cell ≡ get_or
        (chosen what_left 0 s.cells) c empty_cell
    unfolding what_left
    block_left c h =
        let p : suc (at m c) < length d = subst (λ (n : ℕ). suc (at m c) < n) (sym sf.size)
        (cell_in l (at m c) (sf.placed.below c h)) in
        let q : c < length s.cells = subst (λ (n : ℕ). c < n) sf.long (sf.placed.within c h) in
        get_or-chosen empty_cell g d (suc (at m c)) p ∙ (ap still (sym (chose c (is_in c (last_cells s)) refl h))
        ∙ sym (get_or-chosen empty_cell what_left s.cells c q))

    loaded : wakes k l (seen (chosen g 0 d)) ≡ rested l r.live (counts_of r.base) r.journal (ren (at m) (last s))
    loaded = stored_loads (chosen g 0 d) r (ren (at m) (last s)) (length-chosen g 0 d ∙ sf.size) sf.base_fits sf.journal_fits
        sf.journal_ok stored_still

    safe_left : Safe k Fits l (lost (length s.older) what_left s) (chosen g 0 d) r m
    safe_left = record {
      size = length-chosen g 0 d ∙ sf.size;
      long = sf.long ∙ sym (length-chosen what_left 0 s.cells);
      placed = sf.placed;
      fits = sf.fits;
      base_fits = sf.base_fits;
      journal_fits = sf.journal_fits;
      journal_ok = sf.journal_ok;
      stored = stored_still;
      covered = λ c h j. (j, ap (λ (x : Cell). left x j) (sym (block_left c h)));
    }

    idle_left : Idle k Fits l (lost (length s.older) what_left s) (chosen g 0 d) (wakes k l (seen (chosen g 0 d))) m
    unfolding cells_of
    idle_left = subst (λ (st : State). Idle k Fits l (lost (length s.older) what_left s) (chosen g 0 d) st m) (sym loaded) (record {
      tree_is = refl;
      older_is = refl;
      held_bits = rw (all_cells_ren (at m) (last s).nodes, append-nil (all_cells (last s).nodes));
      few = zero-le;
      tree_fits = sf.fits;
      all_placed = subst (λ (xs : List ℕ). Placed l.room m xs) (sym (append-nil (last_cells s))) sf.placed;
      fresh_long = length-replicate l.room false;
      fresh_is = λ c h e. absurd (both_ways (get_or (replicate l.room false) (at m c) false)
          (get_or_replicate_any false l.room (at m c)) e);
      now_is = λ c h e. ap (λ (x : Cell). x.now)
          (block_left c (subst (λ (xs : List ℕ). is_in c xs ≡ true) (append-nil (last_cells s)) h));
      root = r;
      live_is = refl;
      base_is = refl;
      journal_fits = sf.journal_fits;
      journal_ok = sf.journal_ok;
      journal_is = λ e. ap (synced_core l) sf.stored.replays;
      safe = safe_left;
    })

pub safe_chosen : (k : Encoding) (Fits : Limits → Tree → Type 0) (laws : Laws k Fits) (l : Limits) (gl : Sized l) (s : Fs) (d : Disk)
    (r : Root) (m : List ℕ) (g : ℕ → ℕ) →
    Safe k Fits l s d r m → Safe k Fits l s (chosen g 0 d) r m
safe_chosen k Fits laws l gl s d r m g sf = record {
  size = length-chosen g 0 d ∙ sf.size;
  long = sf.long;
  placed = sf.placed;
  fits = sf.fits;
  base_fits = sf.base_fits;
  journal_fits = sf.journal_fits;
  journal_ok = sf.journal_ok;
  stored = stored_still k Fits laws l gl s d r m g sf;
  covered = λ c h j.
      let p : suc (at m c) < length d = subst (λ (n : ℕ). suc (at m c) < n) (sym sf.size)
      (cell_in l (at m c) (sf.placed.below c h)) in
      let q = sf.covered c h (g (suc (at m c))) in (
        q.0,
        q.1 ∙ sym (ap (λ (x : Cell). left x j) (get_or-chosen empty_cell g d (suc (at m c)) p)
            ∙ left_still (left (get_or d (suc (at m c)) empty_cell) (g (suc (at m c)))) j),
      );
}

pub power_goes : (k : Encoding) (Fits : Limits → Tree → Type 0) → Laws k Fits → PowerGoes k Fits
power_goes k Fits laws l s d r m g gl sf = (what_left k Fits laws l gl s d r m g sf, m, idle_left k Fits laws l gl s d r m g sf)
