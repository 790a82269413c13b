-- Calls that change no tree: those that do nothing, a write of one block, and a keep; with what they leave alone.
use Rattle.std.proofs.Common.{◌≡◌, ℕ, zero, suc, ◌+◌, ◌<◌, true, false, ◌&&◌, ltb, ◌⊎◌, List, [], ◌∷◌, ◌++◌, length, get_or, take, set, sym, refl, ap, ◌∙◌, subst, inl, inr, ⊎_elim, zero-le, arith, length-set}
use Rattle.std.proofs.lemmas.List.{get_or-set_same, set_past}
use Rattle.std.proofs.lemmas.Bool.{and_from, lt-ltb, cases_lt, cases_eq, cases_Bool, both_ways}
use Rattle.model.specs.Tree.{Tree, all_cells}
use Rattle.model.specs.Calls.{Block}
use Rattle.model.specs.Refusals.{Limits}
use Rattle.model.specs.Fs.{Cell, Fs, empty_cell, is_in, cells_of, written, kept, kept_all, with_cells, chosen}
use Rattle.model.specs.World.{Act, put_block, keep_all, Disk, kept_disk, did, did_all, blocks_for}
use Rattle.model.specs.Promise.{good_acts}
use Rattle.model_facts.proofs.Cells.{length-kept_all, now_all}
use Rattle.machine.specs.State.{Sized, State, ren}
use Rattle.machine.specs.Program.{Root, Encoding, area_start}
use Rattle.machine.proofs.Invariant.{good_block, at, Covers, last, last_cells, held_cells, Stored, Laws, Safe, Idle, SomeSafe, Busy}
use Rattle.machine.proofs.Lists.{get_or_set_apart}
use Rattle.machine.proofs.Disks.{get_d_kept, length-kept, covers_kept, covers_keep}
use Rattle.machine.proofs.Lists.{in_left, in_right}
use Rattle.machine.proofs.Disks.{covers_written}
use Rattle.machine.proofs.Power.{cell_in, safe_chosen}
use Rattle.machine.proofs.Frames.{past_room}

-- the last kept tree's cells are held
pub last_in : (x : ℕ) (d t : Tree) (ts : List Tree) → is_in x (all_cells (get_or (t ∷ ts) (length ts) d).nodes) ≡ true →
    is_in x (cells_of (t ∷ ts)) ≡ true
unfolding cells_of
last_in x d t [] h = in_left x (all_cells t.nodes) [] h
last_in x d t (u ∷ us) h = in_right x (all_cells t.nodes) (cells_of (u ∷ us)) (last_in x d u us h)

pub last_held : (s : Fs) (x : ℕ) → is_in x (last_cells s) ≡ true → is_in x (held_cells s) ≡ true
last_held s x h = last_in x s.tree s.tree s.older h

pub tree_held : (s : Fs) (x : ℕ) → is_in x (all_cells s.tree.nodes) ≡ true → is_in x (held_cells s) ≡ true
unfolding cells_of
tree_held s x h = in_left x (all_cells s.tree.nodes) (cells_of s.older) h

-- a cell of the last kept tree isn't fresh
pub last_not_fresh : (k : Encoding) (Fits : Limits → Tree → Type 0) (l : Limits) (s : Fs) (d : Disk) (st : State) (m : List ℕ) →
    Idle k Fits l s d st m → (x : ℕ) → is_in x (last_cells s) ≡ true → get_or st.fresh (at m x) false ≡ false
last_not_fresh k Fits l s d st m i x h =
    ⊎_elim (λ p. absurd (both_ways (is_in x (last_cells s)) (i.fresh_is x (last_held s x h) p).1 h)) (λ p. p)
    (cases_Bool (get_or st.fresh (at m x) false))

-- an empty cell stays one
kept_all_empty : (ks : List ℕ) (cs : List Cell) (x : ℕ) → get_or cs x empty_cell ≡ empty_cell →
    get_or (kept_all ks cs) x empty_cell ≡ empty_cell
unfolding kept_all
kept_all_empty [] cs x h = h
kept_all_empty (k ∷ ks) cs x h = kept_all_empty ks (set cs k (kept (get_or cs k empty_cell))) x (⊎_elim
    (λ e. ⊎_elim (λ q. subst (λ (y : ℕ). get_or (set cs k (kept (get_or cs k empty_cell))) y empty_cell ≡ kept (get_or cs y empty_cell)) e
    (get_or-set_same cs k (kept (get_or cs k empty_cell)) empty_cell q) ∙ ap kept h)
    (λ q. ap (λ (ds : List Cell). get_or ds x empty_cell) (set_past cs k (kept (get_or cs k empty_cell)) q)
    ∙ h) (cases_lt k (length cs)))
    (λ e. get_or_set_apart empty_cell cs k x (kept (get_or cs k empty_cell)) e ∙ h)
    (cases_eq k x))

pub take_none : {A : Type 0} (n : ℕ) → ◌≡◌ {A = List A} (take n []) []
take_none zero = refl
take_none (suc n) = refl

-- fronts of two rows of acts
pub fronts_append : (Q : List Act → Type 0) (xs ys : List Act) → ((n : ℕ) → Q (take n xs)) → ((n : ℕ) → Q (xs ++ take n ys)) →
    (n : ℕ) → Q (take n (xs ++ ys))
fronts_append Q [] ys f g n = g n
fronts_append Q (x ∷ xs) ys f g zero = f 0
fronts_append Q (x ∷ xs) ys f g (suc n) = fronts_append (λ zs. Q (x ∷ zs)) xs ys (λ i. f (suc i)) g n

module _ (k : Encoding) (Fits : Limits → Tree → Type 0) (laws : Laws k Fits) (l : Limits) (gl : Sized l) where
  stored_frame : (d e : Disk) (r : Root) (t : Tree) → Stored k l d r t → get_or e 0 empty_cell ≡ get_or d 0 empty_cell →
      ((j : ℕ) → j < length (k.checkpoint l r.base) → get_or e (area_start k l r.live + j) empty_cell ≡ get_or d
      (area_start k l r.live + j) empty_cell) → Stored k l e r t
  stored_frame d e r t sd p q = record { top = p ∙ sd.top; rest = λ j h. q j h ∙ sd.rest j h; replays = sd.replays }

  pub safe_frame : (s : Fs) (d e : Disk) (r : Root) (m : List ℕ) → Safe k Fits l s d r m → length e ≡ length d →
      get_or e 0 empty_cell ≡ get_or d 0 empty_cell →
      ((j : ℕ) → j < length (k.checkpoint l r.base) → get_or e (area_start k l r.live + j) empty_cell ≡ get_or d
      (area_start k l r.live + j) empty_cell) →
      ((c : ℕ) → is_in c (last_cells s) ≡ true → get_or e (suc (at m c)) empty_cell ≡ get_or d (suc (at m c)) empty_cell) →
      Safe k Fits l s e r m
  safe_frame s d e r m sf len p q u = record {
    size = len ∙ sf.size;
    long = sf.long;
    placed = sf.placed;
    fits = sf.fits;
    base_fits = sf.base_fits;
    journal_fits = sf.journal_fits;
    journal_ok = sf.journal_ok;
    stored = stored_frame d e r (ren (at m) (last s)) sf.stored p q;
    covered = λ c h. subst (λ (x : Cell). Covers x (get_or s.cells c empty_cell)) (sym (u c h)) (sf.covered c h);
  }

  pub safe_kept : (s : Fs) (d : Disk) (r : Root) (m : List ℕ) → Safe k Fits l s d r m → Safe k Fits l s (kept_disk d) r m
  safe_kept s d r m sf = record {
    size = length-kept d ∙ sf.size;
    long = sf.long;
    placed = sf.placed;
    fits = sf.fits;
    base_fits = sf.base_fits;
    journal_fits = sf.journal_fits;
    journal_ok = sf.journal_ok;
    stored = record {
      top = get_d_kept d 0 ∙ ap kept sf.stored.top;
      rest = λ j h. get_d_kept d (area_start k l r.live + j)
          ∙ ap kept (sf.stored.rest j h);
      replays = sf.stored.replays;
    };
    covered = λ c h. subst (λ (x : Cell). Covers x (get_or s.cells c empty_cell)) (sym (get_d_kept d (suc (at m c))))
        (covers_keep (get_or d (suc (at m c)) empty_cell) (get_or s.cells c empty_cell) (sf.covered c h));
  }

  -- a front after which all is safe
  pub before : (s s' : Fs) (d : Disk) (r : Root) (m : List ℕ) (g : ℕ → ℕ) → Safe k Fits l s d r m →
      SomeSafe k Fits l s (chosen g 0 d) ⊎ SomeSafe k Fits l s' (chosen g 0 d)
  before s s' d r m g sf = inl (r, m, safe_chosen k Fits laws l gl s d r m g sf)

  pub behind : (s s' : Fs) (d : Disk) (r : Root) (m : List ℕ) (g : ℕ → ℕ) → Safe k Fits l s' d r m →
      SomeSafe k Fits l s (chosen g 0 d) ⊎ SomeSafe k Fits l s' (chosen g 0 d)
  behind s s' d r m g sf = inr (r, m, safe_chosen k Fits laws l gl s' d r m g sf)

  -- one act, and all is as after the call
  one_act : (s s' : Fs) (d : Disk) (st : State) (m' : List ℕ) (r : Root) (m : List ℕ) (a : Act) →
      good_acts (blocks_for l) (a ∷ []) ≡ true → Safe k Fits l s d r m → Idle k Fits l s' (did a d) st m' →
      Busy k Fits l s s' d (a ∷ []) st
  unfolding did_all
  one_act s s' d st m' r m a ga sf i = record { ends = (m', i); short = omega arith; good = ga; fronts = go }
    where
      go : (n : ℕ) (g : ℕ → ℕ) → SomeSafe k Fits l s (chosen g 0 (did_all (take n (a ∷ [])) d)) ⊎
          SomeSafe k Fits l s' (chosen g 0 (did_all (take n (a ∷ [])) d))
      go zero g = before s s' d r m g sf
      go (suc n) g = rw (take_none {A = Act} n) (behind s s' (did a d) i.root m' g i.safe)

  module _ (s : Fs) (d : Disk) (st : State) (m : List ℕ) (i : Idle k Fits l s d st m) where
    -- nothing is done
    pub stays : Busy k Fits l s s d [] st
    unfolding did_all good_acts
    stays = record {
      ends = (m, i);
      short = zero-le;
      good = refl;
      fronts =
          λ n g. rw (take_none n) (before s s d i.root m g i.safe);
    }

    -- a cell is written
    module _ (x : ℕ) (b : Block) (has : is_in x (all_cells s.tree.nodes) ≡ true) (gb : good_block b ≡ true) where
      s_wrote : Fs
      s_wrote = with_cells (set s.cells x (written (get_or s.cells x empty_cell) b)) s

      d_wrote : Disk
      d_wrote = set d (suc (at m x)) (written (get_or d (suc (at m x)) empty_cell) b)

      x_held : is_in x (held_cells s) ≡ true
      x_held = tree_held s x has

      x_there : x < length s.cells
      x_there = subst (λ (n : ℕ). x < n) i.safe.long (i.all_placed.within x x_held)

      b_there : suc (at m x) < length d
      b_there = subst (λ (n : ℕ). suc (at m x) < n) (sym i.safe.size) (cell_in l (at m x) (i.all_placed.below x x_held))

      other : (c : ℕ) → is_in c (held_cells s) ≡ true →
          (x ≡ c → ⊥) → get_or d_wrote (suc (at m c)) empty_cell ≡ get_or d (suc (at m c)) empty_cell
      unfolding d_wrote
      other c h n = get_or_set_apart empty_cell d (suc (at m x)) (suc (at m c)) (written (get_or d (suc (at m x)) empty_cell) b)
          (λ e. n (i.all_placed.apart x c x_held h (omega arith)))

      safe_wrote : Safe k Fits l s_wrote d_wrote i.root m
      unfolding s_wrote d_wrote
      safe_wrote =
          let sf : Safe k Fits l s d i.root m = i.safe in
          let low : at m x < l.room = i.all_placed.below x x_held in
          record {
            size = length-set d (suc (at m x)) (written (get_or d (suc (at m x)) empty_cell) b) ∙ sf.size;
            long = sf.long ∙ sym (length-set s.cells x (written (get_or s.cells x empty_cell) b));
            placed = sf.placed;
            fits = sf.fits;
            base_fits = sf.base_fits;
            journal_fits = sf.journal_fits;
            journal_ok = sf.journal_ok;
            stored = stored_frame d d_wrote i.root (ren (at m) (last s)) sf.stored
                (get_or_set_apart empty_cell d (suc (at m x)) 0 (written (get_or d (suc (at m x)) empty_cell) b) (λ e. omega arith))
                (λ j h. get_or_set_apart empty_cell d (suc (at m x)) (area_start k l i.root.live + j)
                (written (get_or d (suc (at m x)) empty_cell) b) (λ e. let p = past_room k Fits laws l gl i.root.live j in
                omega arith));
            covered = λ c h. ⊎_elim
                (λ e. subst (λ (y : ℕ). Covers (get_or d_wrote (suc (at m y)) empty_cell) (get_or s_wrote.cells y empty_cell)) e
                (rw (
                  get_or-set_same d (suc (at m x)) (written (get_or d (suc (at m x)) empty_cell) b) empty_cell b_there,
                  get_or-set_same
                      s.cells x (written (get_or s.cells x empty_cell) b) empty_cell x_there,
                )
                (covers_written (get_or d (suc (at m x)) empty_cell) (get_or s.cells x empty_cell) b
                (sf.covered x (subst (λ (y : ℕ). is_in y (last_cells s) ≡ true) (sym e) h)))))
                (λ e. rw (
                  other c (last_held s c h) e,
                  get_or_set_apart empty_cell s.cells x c
                      (written (get_or s.cells x empty_cell) b) e,
                ) (sf.covered c h))
                (cases_eq x c);
          }

      st_wrote : State
      st_wrote = record {
        tree = st.tree;
        older = st.older;
        held = st.held;
        live = st.live;
        base = st.base;
        fresh =
            set st.fresh (at m x) false;
        journal = st.journal;
        over = st.over;
      }

      -- the block isn't fresh now; any other is as it was
      not_fresh : get_or (set st.fresh (at m x) false) (at m x) false ≡ false
      not_fresh = get_or-set_same st.fresh (at m x) false false
          (subst (λ (n : ℕ). at m x < n) (sym i.fresh_long) (i.all_placed.below x x_held))

      fresh_other : (c : ℕ) → is_in c (held_cells s) ≡ true → (x ≡ c → ⊥) → get_or (set st.fresh (at m x) false) (at m c) false ≡ get_or
          st.fresh (at m c) false
      fresh_other c h n = get_or_set_apart false st.fresh (at m x) (at m c) false (λ e. n (i.all_placed.apart x c x_held h e))

      idle_wrote : Idle k Fits l s_wrote d_wrote st_wrote m
      unfolding s_wrote d_wrote st_wrote
      idle_wrote = record {
        tree_is = i.tree_is;
        older_is = i.older_is;
        held_bits = i.held_bits;
        few = i.few;
        tree_fits = i.tree_fits;
        all_placed =
            i.all_placed;
        fresh_long = length-set st.fresh (at m x) false ∙ i.fresh_long;
        fresh_is = λ c h f. ⊎_elim
            (λ e. absurd (both_ways (get_or (set st.fresh (at m x) false) (at m x) false) not_fresh
            (subst (λ (y : ℕ). get_or (set st.fresh (at m x) false) (at m y) false ≡ true) (sym e) f)))
            (λ e. rw (get_or_set_apart empty_cell s.cells x c (written (get_or s.cells x empty_cell) b) e)
            (i.fresh_is c h (sym (fresh_other c h e) ∙ f)))
            (cases_eq x c);
        now_is = λ c h f. ⊎_elim
            (λ e. subst (λ (y : ℕ). (get_or d_wrote (suc (at m y)) empty_cell).now ≡ (get_or s_wrote.cells y empty_cell).now) e
            (rw (
              get_or-set_same d (suc (at m x)) (written (get_or d (suc (at m x)) empty_cell) b) empty_cell b_there,
              get_or-set_same
                  s.cells x (written (get_or s.cells x empty_cell) b) empty_cell x_there,
            )))
            (λ e. rw (other c h e, get_or_set_apart empty_cell s.cells x c (written (get_or s.cells x empty_cell) b) e)
            (i.now_is c h (sym (fresh_other c h e) ∙ f)))
            (cases_eq x c);
        root = i.root;
        live_is = i.live_is;
        base_is = i.base_is;
        journal_fits = i.journal_fits;
        journal_ok =
            i.journal_ok;
        journal_is = i.journal_is;
        safe = safe_wrote;
      }

      pub writes : Busy k Fits l s (with_cells (set s.cells x (written (get_or s.cells x empty_cell) b)) s) d
          (put_block (suc (at m x)) b ∷ [])
          (record {
            tree = st.tree;
            older = st.older;
            held = st.held;
            live = st.live;
            base = st.base;
            fresh =
                set st.fresh (at m x) false;
            journal = st.journal;
            over = st.over;
          })
      unfolding s_wrote d_wrote st_wrote did good_acts
      writes = one_act s s_wrote d st_wrote m i.root m (put_block (suc (at m x)) b)
          (and_from (ltb (suc (at m x)) (blocks_for l) && good_block b) true
          (and_from (ltb (suc (at m x)) (blocks_for l)) (good_block b)
          (lt-ltb (suc (at m x)) (blocks_for l) (cell_in l (at m x) (i.all_placed.below x x_held))) gb) refl)
          i.safe idle_wrote

    -- cells are kept
    module _ (xs : List ℕ) where
      s_kept : Fs
      s_kept = with_cells (kept_all xs s.cells) s

      now_kept : (c : ℕ) → is_in c (held_cells s) ≡ true → get_or st.fresh (at m c) false ≡ false →
          (get_or (kept_disk d) (suc (at m c)) empty_cell).now ≡ (get_or (kept_all xs s.cells) c empty_cell).now
      now_kept c h f = ap (λ (x : Cell). x.now) (get_d_kept d (suc (at m c))) ∙ (i.now_is c h f ∙ sym (now_all xs s.cells c))

      idle_kept : Idle k Fits l s_kept (kept_disk d) st m
      unfolding s_kept
      idle_kept =
          let sf : Safe k Fits l s d i.root m = i.safe in
          let kf : Safe k Fits l s (kept_disk d) i.root m = safe_kept s d i.root m sf in
          record {
            tree_is = i.tree_is;
            older_is = i.older_is;
            held_bits = i.held_bits;
            few = i.few;
            tree_fits =
                i.tree_fits;
            all_placed = i.all_placed;
            fresh_long = i.fresh_long;
            fresh_is = λ c h f. let q = i.fresh_is c h f in (kept_all_empty xs s.cells c q.0, q.1);
            now_is = now_kept;
            root = i.root;
            live_is = i.live_is;
            base_is = i.base_is;
            journal_fits = i.journal_fits;
            journal_ok =
                i.journal_ok;
            journal_is = i.journal_is;
            safe = record {
              size = kf.size;
              long = kf.long ∙ sym (length-kept_all xs s.cells);
              placed = kf.placed;
              fits = kf.fits;
              base_fits = kf.base_fits;
              journal_fits = kf.journal_fits;
              journal_ok = kf.journal_ok;
              stored = kf.stored;
              covered = λ c h. subst (λ (x : Cell). Covers x (get_or (kept_all xs s.cells) c empty_cell))
                  (sym (get_d_kept d (suc (at m c))))
                  (covers_kept (get_or d (suc (at m c)) empty_cell) (get_or (kept_all xs s.cells) c empty_cell)
                  (i.now_is c (last_held s c h) (last_not_fresh k Fits l s d st m i c h) ∙ sym (now_all xs s.cells c)));
            };
          }

      pub keeps : Busy k Fits l s (with_cells (kept_all xs s.cells) s) d (keep_all ∷ []) st
      unfolding s_kept did good_acts
      keeps = one_act s s_kept d st m i.root m keep_all refl i.safe idle_kept
