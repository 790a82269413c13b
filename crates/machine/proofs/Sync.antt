-- A tree sync, by the journal or by a checkpoint: in both some blocks are put that the last synced tree does not need, all
-- is kept, and then the superblock is put and kept. `keeps_tree` is one proof for both.
use Rattle.std.proofs.Common.{◌≡◌, ℕ, zero, suc, ◌+◌, ◌*◌, ◌<◌, ◌≤◌, Bool, true, false, cond, not, ◌&&◌, eqb, ltb, ◌⊎◌, List, [], ◌∷◌, ◌++◌, length, get_or, take, set, replicate, sym, refl, ap, ◌∙◌, subst, inl, inr, ⊎_elim, append-nil, zero-le, zero-add, arith, length-append, length-set}
use lib.ListN.{length-replicate}
use Rattle.std.proofs.lemmas.List.{get_or-set_same}
use Rattle.std.proofs.lemmas.Bool.{and_parts, and_from, lt-ltb, eqb-true, eq-eqb, or_cases, or_left, or_right, both_ways, false≢true, cases_Bool}
use Rattle.model.specs.Tree.{Tree, all_cells}
use Rattle.model.specs.Calls.{Block, empty_block, bytes}
use Rattle.model.specs.Refusals.{Limits}
use Rattle.model.specs.Fs.{Cell, Fs, empty_cell, is_in, cells_of, written, kept, chosen}
use Rattle.model.specs.World.{Act, put_block, keep_all, Disk, kept_disk, did, did_all, blocks_for}
use Rattle.model.specs.Promise.{good_acts}
use Rattle.model_facts.proofs.Zeros.{bytes_zeros}
use Rattle.model_facts.proofs.Cells.{length-chosen}
use Rattle.machine.specs.State.{Sized, Counts, counts_of, State, ren, marks, Core, synced_core, ready, replay, both}
use Rattle.machine.specs.Program.{Root, Encoding, area_start, rested, puts, zeros, by_checkpoint, by_journal}
use Rattle.machine.specs.Fits.{ok_journal}
use Rattle.machine.proofs.Counting.{length-marks, marks_have, have_marks}
use Rattle.machine.proofs.Invariant.{good_block, at, still, left, Covers, last_cells, Placed, Laws, Safe, Idle, SomeSafe, Busy}
use Rattle.machine.proofs.Lists.{get_or_set_apart}
use Rattle.machine.proofs.Disks.{get_d_kept, length-kept, length-did_all, did_all-append}
use Rattle.machine.proofs.Lists.{get_or_replicate_any, in_nth, in_map, of_map}
use Rattle.machine.proofs.Disks.{get_or-chosen, covers_kept}
use Rattle.machine.proofs.Renaming.{all_cells_ren}
use Rattle.machine.proofs.Changes.{cond_case}
use Rattle.machine.proofs.Power.{area_in, cell_in, get_or-still}
use Rattle.machine.proofs.Frames.{frame, avoids, avoids-take, avoids_puts, avoids_zeros, avoids_top, puts_now, past_room, area_ends}
use Rattle.machine.proofs.Writes.{tree_held, last_not_fresh, safe_frame, safe_kept, before, behind, take_none, fronts_append}

-- the marked ones among some blocks
abbrev pub those : Limits → List Bool → List ℕ → List ℕ
those l fs cs = both (marks l.room 0 cs) fs 0

-- good acts
pub good_append : (n : ℕ) (xs ys : List Act) → good_acts n xs ≡ true → good_acts n ys ≡ true → good_acts n (xs ++ ys) ≡ true
unfolding good_acts
good_append n [] ys f g = g
good_append n (put_block k b ∷ xs) ys f g = let p = and_parts (ltb k n && good_block b) (good_acts n xs) f in
    and_from (ltb k n && good_block b) (good_acts n (xs ++ ys)) p.0 (good_append n xs ys p.1 g)
good_append n (keep_all ∷ xs) ys f g = good_append n xs ys f g

length-puts : (k : ℕ) (bs : List Block) → length (puts k bs) ≡ length bs
unfolding puts
length-puts k [] = refl
length-puts k (b ∷ bs) = ap suc (length-puts (suc k) bs)

pub good_puts : (n k : ℕ) (bs : List Block) → k + length bs ≤ n → ((j : ℕ) → j < length bs → good_block (get_or bs j empty_block) ≡ true) →
    good_acts n (puts k bs) ≡ true
unfolding good_acts puts
good_puts n k [] h g = refl
good_puts n k (b ∷ bs) h g = and_from (ltb k n && good_block b) (good_acts n (puts (suc k) bs))
    (and_from (ltb k n) (good_block b) (lt-ltb k n (omega arith)) (g 0 (omega arith)))
    (good_puts n (suc k) bs (omega arith) (λ j p. g (suc j) (omega arith)))

-- of two that may be left, one is
left_two : (a b : Block) (j : ℕ) → (get_or (b ∷ a ∷ []) j b ≡ b) ⊎ (get_or (b ∷ a ∷ []) j b ≡ a)
left_two a b zero = inl refl
left_two a b (suc zero) = inr refl
left_two a b (suc (suc j)) = inl refl

zero_good : good_block empty_block ≡ true
zero_good = and_from (eqb (length empty_block) 4096) (bytes empty_block)
    (eq-eqb (length empty_block) 4096 (length-replicate {A = ℕ} 4096 0))
    (bytes_zeros 4096)

pub length-zeros : (ks : List ℕ) → length (zeros ks) ≡ length ks
unfolding zeros
length-zeros [] = refl
length-zeros (x ∷ ks) = ap suc (length-zeros ks)

good_zeros : (n : ℕ) (ks : List ℕ) → ((j : ℕ) → j < length ks → suc (at ks j) < n) → good_acts n (zeros ks) ≡ true
unfolding good_acts zeros
good_zeros n [] h = refl
good_zeros n (x ∷ ks) h = and_from (ltb (suc x) n && good_block empty_block) (good_acts n (zeros ks))
    (and_from (ltb (suc x) n) (good_block empty_block) (lt-ltb (suc x) n (h 0 (omega arith))) zero_good)
    (good_zeros n ks (λ j p. h (suc j) (omega arith)))

-- zeros are there
zeros_now : (x : ℕ) (ks : List ℕ) (d : Disk) → is_in x ks ≡ true → suc x < length d →
    (get_or (did_all (zeros ks) d) (suc x) empty_cell).now ≡ empty_block
unfolding is_in zeros did_all did
zeros_now x [] d h p = absurd (false≢true h)
zeros_now x (y ∷ ks) d h p =
    let e : Disk = set d (suc y) (written (get_or d (suc y) empty_cell) empty_block) in
    ⊎_elim
    (λ q. zeros_now x ks e q
    (subst (λ (n : ℕ). suc x < n) (sym (length-set d (suc y) (written (get_or d (suc y) empty_cell) empty_block))) p))
    (λ q. ⊎_elim
    (λ r. let w : x ≡ y = eqb-true x y r in
    ap (λ (c : Cell). c.now) (frame (suc x) (zeros ks) e (avoids_zeros x ks q)
    ∙ subst (λ (z : ℕ). get_or e (suc z) empty_cell ≡ written (get_or d (suc y) empty_cell) empty_block) (sym w)
    (get_or-set_same d (suc y) (written (get_or d (suc y) empty_cell) empty_block) empty_cell
    (subst (λ (z : ℕ). suc z < length d) w p))))
    (λ r. absurd (both_ways (is_in x ks) q r)) (or_cases (eqb x y) (is_in x ks) h))
    (cases_Bool (is_in x ks))

-- the marked ones of some
both_in : (ks bs : List Bool) (k x : ℕ) → is_in x (both ks bs k) ≡ true → (i : ℕ) × (x ≡ k + i) × (get_or ks i false ≡ true) ×
    (get_or bs i false ≡ true)
unfolding both is_in
both_in [] bs k x h = absurd (false≢true h)
both_in (a ∷ ks) [] k x h = absurd (false≢true h)
both_in (a ∷ ks) (b ∷ bs) k x h =
    let more : is_in x (both ks bs (suc k)) ≡ true → (i : ℕ) × (x ≡ k + i) × (get_or (a ∷ ks) i false ≡ true) ×
    (get_or (b ∷ bs) i false ≡ true) = λ q. let r = both_in ks bs (suc k) x q in (suc r.0, omega (arith, r.1), r.2, r.3) in
    ⊎_elim
    (λ p. let w = and_parts a b p.0 in
    ⊎_elim (λ q. let e = eqb-true x k q in (0, omega arith, w.0, w.1)) more
    (or_cases (eqb x k) (is_in x (both ks bs (suc k))) p.1))
    (λ p. more p.1)
    (cond_case (λ (ys : List ℕ). is_in x ys ≡ true) (a && b) (k ∷ both ks bs (suc k)) (both ks bs (suc k)) h)

in_both : (ks bs : List Bool) (k i x : ℕ) → x ≡ k + i → get_or ks i false ≡ true → get_or bs i false ≡ true → is_in x (both ks bs k) ≡ true
unfolding both is_in
in_both [] bs k i x e p q = absurd (false≢true p)
in_both (a ∷ ks) [] k i x e p q = absurd (false≢true q)
in_both (a ∷ ks) (b ∷ bs) k zero x e p q = rw (p, q) (or_left (eqb x k) (is_in x (both ks bs (suc k))) (eq-eqb x k (omega arith)))
in_both (a ∷ ks) (b ∷ bs) k (suc i) x e p q = go (a && b) (in_both ks bs (suc k) i x (omega arith) p q)
  where
    go : (c : Bool) → is_in x (both ks bs (suc k)) ≡ true → is_in x (cond c (k ∷ both ks bs (suc k)) (both ks bs (suc k))) ≡ true
    go true r = or_right (eqb x k) (is_in x (both ks bs (suc k))) r
    go false r = r

length_both : (ks bs : List Bool) (k : ℕ) → length (both ks bs k) ≤ length ks
unfolding both
length_both [] bs k = zero-le
length_both (a ∷ ks) [] k = zero-le
length_both (a ∷ ks) (b ∷ bs) k = go (a && b) (length_both ks bs (suc k))
  where
    go : (c : Bool) → length (both ks bs (suc k)) ≤ length ks → length (cond c (k ∷ both ks bs (suc k)) (both ks bs (suc k))) ≤ suc
        (length ks)
    go true h = omega arith
    go false h = omega arith

those_in : (l : Limits) (fs : List Bool) (cs : List ℕ) (x : ℕ) → is_in x (those l fs cs) ≡ true → (is_in x cs ≡ true) ×
    (get_or fs x false ≡ true)
those_in l fs cs x h =
    let r = both_in (marks l.room 0 cs) fs 0 x h in (
      subst (λ (y : ℕ). is_in y cs ≡ true) (sym r.1) (marks_have l.room 0 r.0 cs r.2),
      subst
          (λ (y : ℕ). get_or fs y false ≡ true) (sym (r.1 ∙ zero-add r.0)) r.3,
    )

in-those : (l : Limits) (fs : List Bool) (cs : List ℕ) (x : ℕ) → x < l.room → is_in x cs ≡ true → get_or fs x false ≡ true →
    is_in x (those l fs cs) ≡ true
in-those l fs cs x p h f = in_both (marks l.room 0 cs) fs 0 x x (sym (zero-add x))
    (have_marks l.room 0 x cs p (subst (λ (y : ℕ). is_in y cs ≡ true) (sym (zero-add x)) h)) f

pub length-those : (l : Limits) (fs : List Bool) (cs : List ℕ) → length (those l fs cs) ≤ l.room
length-those l fs cs = subst (λ (n : ℕ). length (those l fs cs) ≤ n) (length-marks l.room 0 cs)
    (length_both (marks l.room 0 cs) fs 0)

avoids-append : (j : ℕ) (xs ys : List Act) → avoids j xs ≡ true → avoids j ys ≡ true → avoids j (xs ++ ys) ≡ true
unfolding avoids
avoids-append j [] ys f g = g
avoids-append j (put_block k b ∷ xs) ys f g = let p = and_parts (not (eqb k j)) (avoids j xs) f in
    and_from (not (eqb k j)) (avoids j (xs ++ ys)) p.0 (avoids-append j xs ys p.1 g)
avoids-append j (keep_all ∷ xs) ys f g = absurd (false≢true f)

ready_tree : (l : Limits) (b : Bool) (x : Core) → (ready l b x).tree ≡ x.tree
ready_tree l true x = refl
ready_tree l false x = refl

module _ (k : Encoding) (Fits : Limits → Tree → Type 0) (laws : Laws k Fits) (l : Limits) (gl : Sized l) where
  areas_apart : (r : Bool) (t u : Tree) (j : ℕ) → Fits l t → Fits l u → j < length (k.checkpoint l t) →
      (area_start k l r + j < area_start k l (not r)) ⊎ (area_start k l (not r) + length (k.checkpoint l u) ≤ area_start k l r + j)
  unfolding area_start
  areas_apart false t u j ft fu h = let a = laws.area_short l t gl ft in inl (omega arith)
  areas_apart true t u j ft fu h = let a = laws.area_short l u gl fu in inr (omega arith)

  module _ (s : Fs) (d : Disk) (st : State) (m : List ℕ) (i : Idle k Fits l s d st m) where
    abbrev T : Tree
    T = ren (at m) s.tree

    abbrev s_synced : Fs
    s_synced = record { tree = s.tree; older = []; cells = s.cells }

    T_fits : Fits l T
    T_fits = subst (Fits l) i.tree_is i.tree_fits

    tree_placed : Placed l.room m (all_cells s.tree.nodes)
    tree_placed = record {
      within = λ c h. i.all_placed.within c (tree_held s c h);
      below =
          λ c h. i.all_placed.below c (tree_held s c h);
      apart = λ c e h q p. i.all_placed.apart c e (tree_held s c h) (tree_held s e q) p;
    }

    -- first some puts that leave alone what was kept; then all is kept, and block 0 put and kept
    module _ (pre : List Act) (r' : Root) (pre-top : avoids 0 pre ≡ true)
        (pre-live : (j : ℕ) → j < length (k.checkpoint l i.root.base) → avoids (area_start k l i.root.live + j) pre ≡ true)
        (pre-last : (c : ℕ) → is_in c (last_cells s) ≡ true → avoids (suc (at m c)) pre ≡ true)
        (pre-now : (c : ℕ) → is_in c (all_cells s.tree.nodes) ≡ true →
        (get_or (did_all pre d) (suc (at m c)) empty_cell).now ≡ (get_or s.cells c empty_cell).now)
        (pre-area : (j : ℕ) → j < length (k.checkpoint l r'.base) →
        (get_or (did_all pre d) (area_start k l r'.live + j) empty_cell).now ≡ get_or (k.checkpoint l r'.base) j empty_block)
        (new-base : Fits l r'.base) (new-fits : k.fits l r'.journal ≡ true) (new_ok : ok_journal r'.journal ≡ true)
        (new-replays : (replay l (synced_core l r'.base) r'.journal).tree ≡ T)
        (pre-short : length pre + 3 ≤ 2 * blocks_for l) (pre-good : good_acts (blocks_for l) pre ≡ true) where
      pre_safe : (xs : List Act) → ((j : ℕ) → avoids j pre ≡ true → avoids j xs ≡ true) → Safe k Fits l s (did_all xs d) i.root m
      pre_safe xs av = safe_frame k Fits laws l gl s d (did_all xs d) i.root m i.safe (length-did_all xs d)
          (frame 0 xs d (av 0 pre-top)) (λ j h. frame (area_start k l i.root.live + j) xs d
          (av (area_start k l i.root.live + j) (pre-live j h)))
          (λ c h. frame (suc (at m c)) xs d (av (suc (at m c)) (pre-last c h)))

      d₁ : Disk
      d₁ = did_all pre d

      d₂ : Disk
      d₂ = kept_disk d₁

      abbrev sup' : Block
      sup' = k.superblock l r'.live (counts_of r'.base) r'.journal

      d₃ : Disk
      d₃ = set d₂ 0 (written (get_or d₂ 0 empty_cell) sup')

      d₄ : Disk
      d₄ = kept_disk d₃

      long₂ : length d₂ ≡ blocks_for l
      unfolding d₂ d₁
      long₂ = length-kept d₁ ∙ (length-did_all pre d ∙ i.safe.size)

      long₃ : length d₃ ≡ blocks_for l
      unfolding d₃
      long₃ = length-set d₂ 0 (written (get_or d₂ 0 empty_cell) sup') ∙ long₂

      safe₁ : Safe k Fits l s d₁ i.root m
      unfolding d₁
      safe₁ = pre_safe pre (λ j h. h)

      safe₂ : Safe k Fits l s d₂ i.root m
      unfolding d₂
      safe₂ = safe_kept k Fits laws l gl s d₁ i.root m safe₁

      -- a disk that is as then, but for block 0
      abbrev Like : Disk → Type 0
      Like e = (j : ℕ) → 0 < j → j < blocks_for l → get_or e j empty_cell ≡ get_or d₂ j empty_cell

      safe_old : (e : Disk) → length e ≡ blocks_for l → Like e → get_or e 0 empty_cell ≡ get_or d₂ 0 empty_cell →
          Safe k Fits l s e i.root m
      safe_old e len like top =
          safe_frame k Fits laws l gl s d₂ e i.root m safe₂ (len ∙ sym long₂) top
          (λ j h. like (area_start k l i.root.live + j) (let p = past_room k Fits laws l gl i.root.live j in omega arith)
          (area_in k Fits laws l i.root.base i.root.live j gl i.safe.base_fits h))
          (λ c h. like (suc (at m c)) (omega arith) (cell_in l (at m c) (i.safe.placed.below c h)))

      now₂ : (c : ℕ) → is_in c (all_cells s.tree.nodes) ≡ true →
          get_or d₂ (suc (at m c)) empty_cell ≡ still (get_or s.cells c empty_cell).now
      unfolding d₂ d₁
      now₂ c h = get_d_kept d₁ (suc (at m c)) ∙ ap still (pre-now c h)

      area₂ : (j : ℕ) → j < length (k.checkpoint l r'.base) → get_or d₂ (area_start k l r'.live + j) empty_cell ≡ still
          (get_or (k.checkpoint l r'.base) j empty_block)
      unfolding d₂ d₁
      area₂ j h = get_d_kept d₁ (area_start k l r'.live + j) ∙ ap still (pre-area j h)

      safe_new : (e : Disk) → length e ≡ blocks_for l → Like e → get_or e 0 empty_cell ≡ still sup' → Safe k Fits l s_synced e r' m
      safe_new e len like top = record {
        size = len;
        long = i.safe.long;
        placed = tree_placed;
        fits = T_fits;
        base_fits = new-base;
        journal_fits = new-fits;
        journal_ok = new_ok;
        stored = record {
          top = top;
          rest =
              λ j h. like (area_start k l r'.live + j) (let p = past_room k Fits laws l gl r'.live j in omega arith)
              (area_in k Fits laws l r'.base r'.live j gl new-base h) ∙ area₂ j h;
          replays = new-replays;
        };
        covered = λ c h. subst (λ (x : Cell). Covers x (get_or s.cells c empty_cell))
            (sym (like (suc (at m c)) (omega arith) (cell_in l (at m c) (tree_placed.below c h)) ∙ now₂ c h))
            (covers_kept (get_or s.cells c empty_cell) (get_or s.cells c empty_cell) refl);
      }

      like₄ : Like d₄
      unfolding d₄ d₃ d₂
      like₄ j p h = get_d_kept d₃ j
          ∙ (ap kept (get_or_set_apart empty_cell d₂ 0 j (written (get_or d₂ 0 empty_cell) sup') (λ e. omega arith) ∙ get_d_kept d₁ j)
          ∙ sym (get_d_kept d₁ j))

      top₄ : get_or d₄ 0 empty_cell ≡ still sup'
      unfolding d₄ d₃
      top₄ = get_d_kept d₃ 0 ∙
          ap kept (get_or-set_same d₂ 0 (written (get_or d₂ 0 empty_cell) sup') empty_cell
          (subst (λ (n : ℕ). 0 < n) (sym long₂) (omega arith)))

      long₄ : length d₄ ≡ blocks_for l
      unfolding d₄
      long₄ = length-kept d₃ ∙ long₃

      idle_new : Idle k Fits l s_synced d₄ (rested l r'.live (counts_of r'.base) r'.journal T) m
      unfolding cells_of
      idle_new = record {
        tree_is = refl;
        older_is = refl;
        held_bits = rw (all_cells_ren (at m) s.tree.nodes, append-nil (all_cells s.tree.nodes));
        few = zero-le;
        tree_fits = T_fits;
        all_placed = subst (λ (xs : List ℕ). Placed l.room m xs) (sym (append-nil (all_cells s.tree.nodes))) tree_placed;
        fresh_long = length-replicate l.room false;
        fresh_is = λ c h e. absurd (both_ways (get_or (replicate l.room false) (at m c) false)
            (get_or_replicate_any false l.room (at m c)) e);
        now_is = λ c h f.
            let q : is_in c (all_cells s.tree.nodes) ≡ true =
            subst (λ (xs : List ℕ). is_in c xs ≡ true) (append-nil (all_cells s.tree.nodes)) h in
            ap (λ (x : Cell). x.now) (like₄ (suc (at m c)) (omega arith) (cell_in l (at m c) (tree_placed.below c q)) ∙ now₂ c q);
        root = r';
        live_is = refl;
        base_is = refl;
        journal_fits = new-fits;
        journal_ok = new_ok;
        journal_is =
            λ e. ap (synced_core l) new-replays;
        safe = safe_new d₄ long₄ like₄ top₄;
      }

      -- block 0 is put, and isn't kept yet: which tree is there goes by what power leaves of it
      like₃ : (g : ℕ → ℕ) → Like (chosen g 0 d₃)
      unfolding d₃ d₂
      like₃ g j p h =
          get_or-still g d₃ j (get_or d₁ j empty_cell).now (subst (λ (n : ℕ). j < n) (sym long₃) h)
          (get_or_set_apart empty_cell d₂ 0 j (written (get_or d₂ 0 empty_cell) sup') (λ e. omega arith) ∙ get_d_kept d₁ j)
          ∙ sym (get_d_kept d₁ j)

      between : (g : ℕ → ℕ) → SomeSafe k Fits l s (chosen g 0 d₃) ⊎ SomeSafe k Fits l s_synced (chosen g 0 d₃)
      unfolding d₃
      between g =
          let sup : Block = k.superblock l i.root.live (counts_of i.root.base) i.root.journal in
          let len : length (chosen g 0 d₃) ≡ blocks_for l = length-chosen g 0 d₃ ∙ long₃ in
          let at_top : get_or d₃ 0 empty_cell ≡ written (still sup) sup' =
          get_or-set_same d₂ 0 (written (get_or d₂ 0 empty_cell) sup') empty_cell (subst (λ (n : ℕ). 0 < n) (sym long₂) (omega arith))
          ∙ ap (λ (x : Cell). written x sup') safe₂.stored.top in
          let top : get_or (chosen g 0 d₃) 0 empty_cell ≡ still (left (written (still sup) sup') (g 0)) =
          get_or-chosen empty_cell g d₃ 0 (subst (λ (n : ℕ). 0 < n) (sym long₃) (omega arith))
          ∙ ap (λ (x : Cell). still (left x (g 0))) at_top in
          ⊎_elim
          (λ p. inr (r', m, safe_new (chosen g 0 d₃) len (like₃ g) (top ∙ ap still p)))
          (λ p. inl (i.root, m, safe_old (chosen g 0 d₃) len (like₃ g) (top ∙ (ap still p ∙ sym safe₂.stored.top))))
          (left_two sup sup' (g 0))

      abbrev tail_acts : List Act
      tail_acts = keep_all ∷ put_block 0 sup' ∷ keep_all ∷ []

      abbrev Front : List Act → Type 0
      Front xs = (g : ℕ → ℕ) → SomeSafe k Fits l s (chosen g 0 (did_all xs d)) ⊎ SomeSafe k Fits l s_synced (chosen g 0 (did_all xs d))

      tail_fronts : (n : ℕ) → Front (pre ++ take n tail_acts)
      unfolding did did_all d₄ d₃ d₂ d₁
      tail_fronts n g = rw (did_all-append pre (take n tail_acts) d) (go n)
        where
          go : (n : ℕ) → SomeSafe k Fits l s (chosen g 0 (did_all (take n tail_acts) d₁)) ⊎
              SomeSafe k Fits l s_synced (chosen g 0 (did_all (take n tail_acts) d₁))
          go zero = before k Fits laws l gl s s_synced d₁ i.root m g safe₁
          go (suc zero) = before k Fits laws l gl s s_synced d₂ i.root m g safe₂
          go (suc (suc zero)) = between g
          go (suc (suc (suc n))) =
              rw (take_none {A = Act} n) (behind k Fits laws l gl s s_synced d₄ r' m g (safe_new d₄ long₄ like₄ top₄))

      keeps_tree : Busy k Fits l s s_synced d (pre ++ tail_acts) (rested l r'.live (counts_of r'.base) r'.journal T)
      unfolding did did_all good_acts d₄ d₃ d₂ d₁
      keeps_tree = record {
        ends = (m, rw (did_all-append pre tail_acts d) idle_new);
        short = let a = length-append pre tail_acts in omega arith;
        good = good_append (blocks_for l) pre tail_acts pre-good
            (and_from (ltb 0 (blocks_for l) && good_block sup') true
            (and_from (ltb 0 (blocks_for l)) (good_block sup') (lt-ltb 0 (blocks_for l) (omega arith))
            (laws.super_good l r'.live r'.base r'.journal gl new-base new-fits new_ok)) refl);
        fronts = fronts_append Front pre tail_acts (λ n g. before k Fits laws l gl s s_synced (did_all (take n pre) d) i.root m g
            (pre_safe (take n pre) (λ j h. avoids-take j n pre h))) tail_fronts;
      }

    -- zeros on the newest tree's fresh blocks
    zs : List ℕ
    zs = those l st.fresh (all_cells T.nodes)

    zs_fresh : (x : ℕ) → is_in x zs ≡ true → get_or st.fresh x false ≡ true
    unfolding zs
    zs_fresh x h = (those_in l st.fresh (all_cells T.nodes) x h).1

    zs_in : (x : ℕ) → is_in x zs ≡ true → x < l.room
    unfolding zs
    zs_in x h =
        let q = of_map (at m) x (all_cells s.tree.nodes)
        (subst (λ (xs : List ℕ). is_in x xs ≡ true) (all_cells_ren (at m) s.tree.nodes)
        (those_in l st.fresh (all_cells T.nodes) x h).0) in
        subst (λ (y : ℕ). y < l.room) q.2 (tree_placed.below q.0 q.1)

    zs_out : (x : ℕ) → get_or st.fresh x false ≡ false → is_in x zs ≡ false
    zs_out x h = ⊎_elim (λ p. absurd (both_ways (get_or st.fresh x false) h (zs_fresh x p))) (λ p. p) (cases_Bool (is_in x zs))

    zeros_far : (y : ℕ) → l.room < y → avoids y (zeros zs) ≡ true
    zeros_far zero h = let z : ⊥ = omega arith in absurd z
    zeros_far (suc x) h =
        avoids_zeros x zs (⊎_elim (λ p. let q = zs_in x p in let z : ⊥ = omega arith in absurd z) (λ p. p) (cases_Bool (is_in x zs)))

    zeros_last : (c : ℕ) → is_in c (last_cells s) ≡ true → avoids (suc (at m c)) (zeros zs) ≡ true
    zeros_last c h = avoids_zeros (at m c) zs (zs_out (at m c) (last_not_fresh k Fits l s d st m i c h))

    zeros_good : good_acts (blocks_for l) (zeros zs) ≡ true
    zeros_good = good_zeros (blocks_for l) zs (λ j h. cell_in l (at zs j) (zs_in (at zs j) (in_nth zs j h)))

    zeros_few : length (zeros zs) ≤ l.room
    unfolding zs
    zeros_few = let a = length-zeros (those l st.fresh (all_cells T.nodes)) in let b =
        length-those l st.fresh (all_cells T.nodes) in omega arith

    -- then each cell of the newest tree is there
    zeros_there : (c : ℕ) → is_in c (all_cells s.tree.nodes) ≡ true →
        (get_or (did_all (zeros zs) d) (suc (at m c)) empty_cell).now ≡ (get_or s.cells c empty_cell).now
    unfolding zs
    zeros_there c h = ⊎_elim
        (λ f. zeros_now (at m c) zs d
        (in-those l st.fresh (all_cells T.nodes) (at m c) (tree_placed.below c h)
        (subst (λ (xs : List ℕ). is_in (at m c) xs ≡ true) (sym (all_cells_ren (at m) s.tree.nodes))
        (in_map (at m) c (all_cells s.tree.nodes) h)) f)
        (subst (λ (n : ℕ). suc (at m c) < n) (sym i.safe.size) (cell_in l (at m c) (tree_placed.below c h)))
        ∙ sym (ap (λ (x : Cell). x.now) (i.fresh_is c (tree_held s c h) f).0))
        (λ f. ap (λ (x : Cell). x.now) (frame (suc (at m c)) (zeros zs) d (avoids_zeros (at m c) zs (zs_out (at m c) f)))
        ∙ i.now_is c (tree_held s c h) f)
        (cases_Bool (get_or st.fresh (at m c) false))

    -- THE TREE IS WRITTEN to the other area
    abbrev other : Bool
    other = not i.root.live

    abbrev area_puts : List Act
    area_puts = puts (area_start k l other) (k.checkpoint l T)

    area_top : avoids 0 area_puts ≡ true
    area_top = avoids_puts 0 (area_start k l other) (k.checkpoint l T) (inl (let p = past_room k Fits laws l gl other 0 in omega arith))

    area_live : (j : ℕ) → j < length (k.checkpoint l i.root.base) → avoids (area_start k l i.root.live + j) area_puts ≡ true
    area_live j h = avoids_puts (area_start k l i.root.live + j) (area_start k l other) (k.checkpoint l T)
        (areas_apart i.root.live i.root.base T j i.safe.base_fits T_fits h)

    area_cell : (c : ℕ) → at m c < l.room → avoids (suc (at m c)) area_puts ≡ true
    area_cell c q = avoids_puts (suc (at m c)) (area_start k l other) (k.checkpoint l T)
        (inl (let p = past_room k Fits laws l gl other 0 in omega arith))

    syncs_other : Busy k Fits l s s_synced d (by_checkpoint k l other st.fresh T) (rested l other (counts_of T) [] T)
    unfolding zs replay ok_journal
    syncs_other = keeps_tree (zeros zs ++ area_puts) (record { live = other; journal = []; base = T })
        (avoids-append 0 (zeros zs) area_puts (avoids_top zs) area_top)
        (λ j h. avoids-append (area_start k l i.root.live + j) (zeros zs) area_puts
        (zeros_far (area_start k l i.root.live + j) (past_room k Fits laws l gl i.root.live j)) (area_live j h))
        (λ c h. avoids-append (suc (at m c)) (zeros zs) area_puts (zeros_last c h) (area_cell c (i.safe.placed.below c h)))
        (λ c h. rw (did_all-append (zeros zs) area_puts d)
        (ap (λ (x : Cell). x.now) (frame (suc (at m c)) area_puts (did_all (zeros zs) d) (area_cell c (tree_placed.below c h)))
        ∙ zeros_there c h))
        (λ j h. rw (did_all-append (zeros zs) area_puts d) (puts_now (area_start k l other) (k.checkpoint l T) (did_all (zeros zs) d) j
        (area_start k l other + j) h refl
        (let p = area_ends k Fits laws l gl other T T_fits in
        subst (λ (n : ℕ). area_start k l other + length (k.checkpoint l T) ≤ n) (sym (length-did_all (zeros zs) d
        ∙ i.safe.size)) p)))
        T_fits (laws.fits_none l) refl refl
        (let a = length-append (zeros zs) area_puts in let b = length-puts (area_start k l other) (k.checkpoint l T) in let c =
        laws.area_short l T gl T_fits in let e = laws.areas_fit l gl in let f = zeros_few in omega arith)
        (good_append (blocks_for l) (zeros zs) area_puts zeros_good (good_puts (blocks_for l) (area_start k l other) (k.checkpoint l T)
        (area_ends k Fits laws l gl other T T_fits) (laws.area_good l T gl T_fits)))

    pub syncs : Busy k Fits l s (record { tree = s.tree; older = []; cells = s.cells }) d
        (by_checkpoint k l (not st.live) st.fresh (ren (at m) s.tree))
        (rested l (not st.live) (counts_of (ren (at m) s.tree)) [] (ren (at m) s.tree))
    syncs = subst (λ (r : Bool). Busy k Fits l s s_synced d (by_checkpoint k l (not r) st.fresh T)
        (rested l (not r) (counts_of T) [] T)) (sym i.live_is) syncs_other

    -- or THE JOURNAL IS WRITTEN, and no area
    notes_here : st.over ≡ false →
        Busy k Fits l s s_synced d (by_journal k l i.root.live (counts_of i.root.base) st.journal st.fresh T)
        (rested l i.root.live (counts_of i.root.base) st.journal T)
    unfolding zs
    notes_here off = keeps_tree (zeros zs) (record { live = i.root.live; journal = st.journal; base = i.root.base })
        (avoids_top zs)
        (λ j h. zeros_far (area_start k l i.root.live + j) (past_room k Fits laws l gl i.root.live j))
        zeros_last
        zeros_there
        (λ j h. ap (λ (x : Cell). x.now) (frame (area_start k l i.root.live + j) (zeros zs) d
        (zeros_far (area_start k l i.root.live + j) (past_room k Fits laws l gl i.root.live j)) ∙ i.safe.stored.rest j h))
        i.safe.base_fits i.journal_fits i.journal_ok
        (sym (ready_tree l (eqb st.older 0) (replay l (synced_core l i.root.base) st.journal))
        ∙ (ap (λ (x : Core). x.tree) (i.journal_is off) ∙ i.tree_is))
        (let f = zeros_few in omega arith)
        zeros_good

    pub notes : st.over ≡ false → Busy k Fits l s (record { tree = s.tree; older = []; cells = s.cells }) d
        (by_journal k l st.live st.base st.journal st.fresh (ren (at m) s.tree))
        (rested l st.live st.base st.journal (ren (at m) s.tree))
    notes off =
        subst (λ (r : Bool). Busy k Fits l s s_synced d (by_journal k l r st.base st.journal st.fresh T)
        (rested l r st.base st.journal T)) (sym i.live_is)
        (subst (λ (b : Counts). Busy k Fits l s s_synced d (by_journal k l i.root.live b st.journal st.fresh T)
        (rested l i.root.live b st.journal T)) (sym i.base_is) (notes_here off))
