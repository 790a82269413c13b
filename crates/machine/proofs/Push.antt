-- A new tree: make, remove, rename and resize in one proof. New cells are the lowest free data blocks; they are held and
-- fresh; the journal gets one item more, or is over.
use Rattle.std.proofs.Common.{◌≡◌, ℕ, zero, suc, ◌+◌, ◌-◌, ◌<◌, ◌≤◌, Bool, true, false, cond, not, eqb, ◌⊎◌, List, [], ◌∷◌, ◌++◌, map, length, get_or, replicate, sym, refl, ap, ◌∙◌, subst, ap₂, inl, inr, ⊎_elim, append_assoc, zero-le, arith, length-append}
use lib.ListN.{length-replicate}
use Rattle.std.proofs.lemmas.List.{get_or_append_left}
use Rattle.std.proofs.lemmas.Bool.{and_from, and_parts, not-true, true≢false, ne_eqb, cases_Bool, cases_order, both_ways, or_left, or_right, eq-eqb}
use Rattle.model.specs.Tree.{Tree, Node, Body, dir, file, cells, all_cells}
use Rattle.model.specs.Calls.{Call, readable}
use Rattle.model.specs.Refusals.{Limits, refusal, refusal_by}
use Rattle.model.specs.Fs.{Cell, Fs, empty_cell, is_in, cells_of, numbers, held}
use Rattle.model.specs.World.{Disk, did_all}
use Rattle.model.specs.Promise.{good_acts}
use Rattle.model_facts.proofs.Cells.{length-numbers}
use Rattle.machine.specs.State.{Sized, Item, State, Core, step, is_push, redo, synced_core, ready, replay, push_it, kind, ren, ren_body}
use Rattle.machine.specs.State.{ren_nodes, marks, count_set, free, marked, more, next_tree}
use Rattle.machine.specs.Program.{longer, has_place, Encoding, refusal_of}
use Rattle.machine.specs.Fits.{ok_call, ok_journal}
use Rattle.machine.proofs.Invariant.{at, last, last_cells, held_cells, Placed, Stored, Laws, Safe, Idle, Busy}
use Rattle.machine.proofs.Lists.{get_or_append_at, get_or_replicate_any}
use Rattle.machine.proofs.Lists.{in_left, in_right, in_either, in_map, of_map, in_nth, in_at, in_numbers, same_in}
use Rattle.machine.proofs.Renaming.{all_cells_ren}
use Rattle.machine.proofs.Renaming.{more_ren, next_ren}
use Rattle.machine.proofs.Changes.{pushed, next_from, next_has}
use Rattle.machine.proofs.Counting.{length-marks, length_marked, marked_out, marked_in, marks_same, marked_marks, held_count, free-length, free_apart, free_in}
use Rattle.machine.proofs.Writes.{tree_held, last_held, before, take_none}

-- one more in a journal
replay_more : (l : Limits) (x : Core) (is : List Item) (i : Item) →
    replay l x (is ++ (i ∷ [])) ≡ redo l (ready l i.first (replay l x is)) i.call
unfolding replay
replay_more l x [] i = refl
replay_more l x (j ∷ is) i = replay_more l (redo l (ready l j.first x) j.call) is i

redo_goes : (l : Limits) (x : Core) (c : Call) → refusal l x.tree x.older (count_set x.held) c ≡ 0 → kind x.tree c ≡ push_it →
    redo l x c ≡ step x c
unfolding is_push
redo_goes l x c e k = rw (e, k)

pub ok-append : (is : List Item) (i : Item) → ok_journal is ≡ true → ok_call i.call ≡ true → ok_journal (is ++ (i ∷ [])) ≡ true
unfolding ok_journal
ok-append [] i h g = and_from (ok_call i.call) true g refl
ok-append (j ∷ is) i h g = let p = and_parts (ok_call j.call) (ok_journal is) h in
    and_from (ok_call j.call) (ok_journal (is ++ (i ∷ []))) p.0 (ok-append is i p.1 g)

-- the new numbers stand for the new blocks
map-numbers : (pre xs : List ℕ) (k n : ℕ) → k ≡ length pre → n ≡ length xs → map (at (pre ++ xs)) (numbers n k) ≡ xs
unfolding numbers
map-numbers pre [] k zero e f = refl
map-numbers pre [] k (suc n) e f = let z : ⊥ = omega arith in absurd z
map-numbers pre (x ∷ xs) k zero e f = let z : ⊥ = omega arith in absurd z
map-numbers pre (x ∷ xs) k (suc n) e f =
    ap₂ {C = List ℕ} (λ y ys. y ∷ ys) (get_or_append_at 0 pre (x ∷ xs) k 0 (omega arith))
    (ap (λ (q : List ℕ). map (at q) (numbers n (suc k))) (sym (append_assoc pre (x ∷ []) xs))
    ∙ map-numbers (pre ++ (x ∷ [])) xs (suc k) n (rw (length-append pre (x ∷ [])) (omega arith)) (omega arith))

map_same : (f g : ℕ → ℕ) (xs : List ℕ) → ((c : ℕ) → is_in c xs ≡ true → f c ≡ g c) → map f xs ≡ map g xs
unfolding is_in
map_same f g [] h = refl
map_same f g (x ∷ xs) h = ap₂ {C = List ℕ} (λ y ys. y ∷ ys) (h x (or_left (eqb x x) (is_in x xs) (eq-eqb x x refl)))
    (map_same f g xs (λ c p. h c (or_right (eqb c x) (is_in c xs) p)))

body_same : (f g : ℕ → ℕ) (b : Body) → ((c : ℕ) → is_in c (cells (b ∷ [])) ≡ true → f c ≡ g c) → ren_body f b ≡ ren_body g b
unfolding ren_body cells
body_same f g (dir es) h = refl
body_same f g (file cs) h = ap file (map_same f g cs h)

-- a tree by other numbers that are the same for its cells
ren_same : (f g : ℕ → ℕ) (ts : List Node) → ((c : ℕ) → is_in c (all_cells ts) ≡ true → f c ≡ g c) → ren_nodes f ts ≡ ren_nodes g ts
unfolding ren_nodes all_cells
ren_same f g [] h = refl
ren_same f g (t ∷ ts) h =
    ap₂ {C = List Node} (λ b us. record { id = t.id; body = b } ∷ us)
    (body_same f g t.body (λ c p. h c (in_left c (cells (t.body ∷ [])) (all_cells ts) p)))
    (ren_same f g ts (λ c p. h c (in_right c (cells (t.body ∷ [])) (all_cells ts) p)))

get_or-last : (d e t : Tree) (ts : List Tree) → get_or (t ∷ ts) (length ts) d ≡ get_or (t ∷ ts) (length ts) e
get_or-last d e t [] = refl
get_or-last d e t (u ∷ us) = get_or-last d e u us

module _ (k : Encoding) (Fits : Limits → Tree → Type 0) (laws : Laws k Fits) (l : Limits) (gl : Sized l)
    (s : Fs) (d : Disk) (st : State) (m : List ℕ) (i : Idle k Fits l s d st m) (c : Call) (rd : readable c ≡ true)
    (goes : refusal_by l s.tree (length s.older) (held s) c ≡ 0) (st_goes : refusal_of l st c ≡ 0)
    (ki : kind st.tree c ≡ push_it) (room : held s + more s.tree c ≤ l.room) (place : length s.older < l.pending) where
  abbrev N : ℕ
  N = more s.tree c

  abbrev hs : List ℕ
  hs = held_cells s

  abbrev nums : List ℕ
  nums = numbers N (length s.cells)

  -- the new blocks
  new : List ℕ
  new = free (more st.tree c) st.held 0

  abbrev m' : List ℕ
  m' = m ++ new

  abbrev s' : Fs
  s' = pushed s c

  new_is : new ≡ free N (marks l.room 0 (map (at m) hs)) 0
  unfolding new
  new_is = rw (i.held_bits, i.tree_is, more_ren (at m) s.tree c)

  new_long : length new ≡ N
  new_long = rw new_is (free-length N (marks l.room 0 (map (at m) hs)) 0
      (rw (held_count l.room m hs i.all_placed, length-marks l.room 0 (map (at m) hs)) (omega arith)))

  new_in : (j : ℕ) → j < length new → (at new j < l.room) × (is_in (at new j) (map (at m) hs) ≡ false)
  new_in j h =
      let q = free_in N l.room (map (at m) hs) j (subst (λ (xs : List ℕ). j < length xs) new_is h) in (
        subst (λ (xs : List ℕ). at xs j < l.room) (sym new_is) (omega (arith, q.0)),
        subst
            (λ (xs : List ℕ). is_in (at xs j) (map (at m) hs) ≡ false) (sym new_is) q.1,
      )

  new_apart : (a b : ℕ) → a < b → b < length new → at new a < at new b
  unfolding new
  new_apart a b p q = free_apart (more st.tree c) st.held 0 a b p q

  long_is : length m ≡ length s.cells
  long_is = i.safe.long

  -- where cells are
  old_at : (x : ℕ) → is_in x hs ≡ true → at m' x ≡ at m x
  old_at x h = get_or_append_left m new 0 x (i.all_placed.within x h)

  new_at : (x : ℕ) → is_in x nums ≡ true → (j : ℕ) × (j < length new) × (x ≡ length m + j) × (at m' x ≡ at new j)
  new_at x h =
      let q = in_numbers x N (length s.cells) h in
      let j : ℕ = x - length m in
      let e : x ≡ length m + j = omega (arith, q.0, long_is) in
      let p : j < length new = omega (arith, q.0, q.1, long_is, new_long) in
      (j, p, e, get_or_append_at 0 m new x j e)

  -- a new block is none of those held
  not_new : (x : ℕ) → is_in x hs ≡ true → is_in (at m x) new ≡ false
  not_new x h = ⊎_elim
      (λ p. let q = in_at (at m x) new p in
      absurd (both_ways (is_in (at new q.0) (map (at m) hs)) (new_in q.0 q.1).1
      (subst (λ (b : ℕ). is_in b (map (at m) hs) ≡ true) (sym q.2) (in_map (at m) x hs h))))
      (λ p. p) (cases_Bool (is_in (at m x) new))

  held_from : (x : ℕ) → is_in x (held_cells s') ≡ true → (is_in x hs ≡ true) ⊎ (is_in x nums ≡ true)
  unfolding cells_of
  held_from x h = ⊎_elim (λ p. ⊎_elim (λ q. inl (tree_held s x q)) (λ q. inr q) (next_from x s.tree nums c p)) (λ p. inl p)
      (in_either x (all_cells s'.tree.nodes) hs h)

  old_held : (x : ℕ) → is_in x hs ≡ true → is_in x (held_cells s') ≡ true
  unfolding cells_of
  old_held x h = in_right x (all_cells s'.tree.nodes) hs h

  new_held : (x : ℕ) → is_in x nums ≡ true → is_in x (held_cells s') ≡ true
  unfolding cells_of
  new_held x h = in_left x (all_cells s'.tree.nodes) hs (next_has x l s.tree (length s.older) (held s) nums c goes
      (length-numbers N (length s.cells)) h)

  nums_are : map (at m') nums ≡ new
  nums_are = map-numbers m new (length s.cells) N (sym long_is) (sym new_long)

  placed' : Placed l.room m' (held_cells s')
  placed' = record {
    within = λ x h. rw (length-append m new) (⊎_elim (λ p. let q = i.all_placed.within x p in omega arith) (λ p. let q =
        new_at x p in omega (arith, q.1, q.2)) (held_from x h));
    below = λ x h. ⊎_elim (λ p. rw (old_at x p) (i.all_placed.below x p)) (λ p. let q = new_at x p in
        rw q.3 (new_in q.0 q.1).0) (held_from x h);
    apart = λ x y h g e. ⊎_elim
        (λ p. ⊎_elim
        (λ q. i.all_placed.apart x y p q (sym (old_at x p) ∙ (e ∙ old_at y q)))
        (λ q. absurd (clash x y p q e)) (held_from y g))
        (λ p. ⊎_elim
        (λ q. absurd (clash y x q p (sym e)))
        (λ q. both x y p q e) (held_from y g))
        (held_from x h);
  }
    where
      clash : (x y : ℕ) → is_in x hs ≡ true → is_in y nums ≡ true → at m' x ≡ at m' y → ⊥
      clash x y p q e =
          let w = new_at y q in
          both_ways (is_in (at m x) new) (not_new x p) (subst (λ (b : ℕ). is_in b new ≡ true) (sym w.3
          ∙ (sym e ∙ old_at x p)) (in_nth new w.0 w.1))

      both : (x y : ℕ) → is_in x nums ≡ true → is_in y nums ≡ true → at m' x ≡ at m' y → x ≡ y
      both x y p q e =
          let v = new_at x p in
          let w = new_at y q in
          let f : at new v.0 ≡ at new w.0 = sym v.3 ∙ (e ∙ w.3) in
          ⊎_elim (λ r. v.2 ∙ (ap (λ (z : ℕ). length m + z) r ∙ sym w.2))
          (⊎_elim (λ r. let a = new_apart v.0 w.0 r w.1 in let z : ⊥ = omega arith in absurd z) (λ r. let a =
          new_apart w.0 v.0 r v.1 in let z : ⊥ = omega arith in absurd z))
          (cases_order v.0 w.0)

  ren_old : (t : Tree) → ((x : ℕ) → is_in x (all_cells t.nodes) ≡ true → is_in x hs ≡ true) → ren (at m') t ≡ ren (at m) t
  ren_old t h = ap {B = Tree} (λ ts. record { nodes = ts; next = t.next }) (ren_same (at m') (at m) t.nodes (λ x p. old_at x (h x p)))

  tree_is' : next_tree st.tree new c ≡ ren (at m') s'.tree
  tree_is' =
      ap (λ (t : Tree). next_tree t new c) (i.tree_is ∙ sym (ren_old s.tree (tree_held s)))
      ∙ (ap (λ (xs : List ℕ). next_tree (ren (at m') s.tree) xs c) (sym nums_are) ∙ next_ren (at m') s.tree nums c)

  taken_is' : marked new st.held ≡ marks l.room 0 (map (at m') (held_cells s'))
  taken_is' =
      ap (marked new) i.held_bits ∙ (marked_marks l.room new (map (at m) hs)
      ∙ marks_same l.room 0 (new ++ map (at m) hs) (map (at m') (held_cells s'))
      (λ b. same_in b (new ++ map (at m) hs) (map (at m') (held_cells s')) (to b) (from b)))
    where
      to : (b : ℕ) → is_in b (new ++ map (at m) hs) ≡ true → is_in b (map (at m') (held_cells s')) ≡ true
      to b h = ⊎_elim
          (λ p. let q = of_map (at m') b nums (subst (λ (xs : List ℕ). is_in b xs ≡ true) (sym nums_are) p) in
          subst (λ (y : ℕ). is_in y (map (at m') (held_cells s')) ≡ true) q.2
          (in_map (at m') q.0 (held_cells s') (new_held q.0 q.1)))
          (λ p. let q = of_map (at m) b hs p in subst (λ (y : ℕ). is_in y (map (at m') (held_cells s')) ≡ true) (old_at q.0 q.1
          ∙ q.2) (in_map (at m') q.0 (held_cells s') (old_held q.0 q.1)))
          (in_either b new (map (at m) hs) h)

      from : (b : ℕ) → is_in b (map (at m') (held_cells s')) ≡ true → is_in b (new ++ map (at m) hs) ≡ true
      from b h =
          let q = of_map (at m') b (held_cells s') h in
          ⊎_elim
          (λ p. in_right b new (map (at m) hs) (subst (λ (y : ℕ). is_in y (map (at m) hs) ≡ true) (sym (old_at q.0 p)
          ∙ q.2) (in_map (at m) q.0 hs p)))
          (λ p. let w = new_at q.0 p in in_left b new (map (at m) hs) (subst (λ (y : ℕ). is_in y new ≡ true) (sym w.3
          ∙ q.2) (in_nth new w.0 w.1)))
          (held_from q.0 q.1)

  not_in_tree : (j : ℕ) → j < length new → is_in (at new j) (all_cells st.tree.nodes) ≡ false
  not_in_tree j h = ⊎_elim
      (λ p. let q = of_map (at m) (at new j) (all_cells s.tree.nodes)
      (subst (λ (xs : List ℕ). is_in (at new j) xs ≡ true) (ap (λ (t : Tree). all_cells t.nodes) i.tree_is
      ∙ all_cells_ren (at m) s.tree.nodes) p) in
      absurd (both_ways (is_in (at new j) (map (at m) hs)) (new_in j h).1
      (subst (λ (b : ℕ). is_in b (map (at m) hs) ≡ true) q.2 (in_map (at m) q.0 hs (tree_held s q.0 q.1)))))
      (λ p. p) (cases_Bool (is_in (at new j) (all_cells st.tree.nodes)))

  tree_fits' : Fits l (next_tree st.tree new c)
  tree_fits' = laws.fits_next l st.tree st.older (count_set st.held) new c gl rd st_goes ki i.tree_fits
      (new_long ∙ sym (ap (λ (t : Tree). more t c) i.tree_is ∙ more_ren (at m) s.tree c))
      (λ j h. ((new_in j h).0, not_in_tree j h))
      new_apart

  last_same : last s' ≡ last s
  last_same = get_or-last s'.tree s.tree s.tree s.older

  last_old : (x : ℕ) → is_in x (last_cells s') ≡ true → is_in x (last_cells s) ≡ true
  last_old x h = subst (λ (t : Tree). is_in x (all_cells t.nodes) ≡ true) last_same h

  -- which blocks are fresh, and what the disk has
  old_bit : (x : ℕ) → is_in x hs ≡ true → get_or (marked new st.fresh) (at m' x) false ≡ get_or st.fresh (at m x) false
  old_bit x p = ap (λ (b : ℕ). get_or (marked new st.fresh) b false) (old_at x p) ∙ marked_out (at m x) new st.fresh (not_new x p)

  old_cell : (x : ℕ) → is_in x hs ≡ true → get_or s'.cells x empty_cell ≡ get_or s.cells x empty_cell
  old_cell x p = get_or_append_left s.cells (replicate N empty_cell) empty_cell x
      (subst (λ (n : ℕ). x < n) long_is (i.all_placed.within x p))

  not_last : (x : ℕ) → (is_in x (last_cells s) ≡ true → ⊥) → is_in x (last_cells s') ≡ false
  not_last x f = ⊎_elim (λ p. absurd (f (last_old x p))) (λ p. p) (cases_Bool (is_in x (last_cells s')))

  fresh_is' : (x : ℕ) → is_in x (held_cells s') ≡ true → get_or (marked new st.fresh) (at m' x) false ≡ true →
      (get_or s'.cells x empty_cell ≡ empty_cell) × (is_in x (last_cells s') ≡ false)
  fresh_is' x h f = ⊎_elim
      (λ p. let q = i.fresh_is x p (sym (old_bit x p) ∙ f) in
      (old_cell x p ∙ q.0, not_last x (both_ways (is_in x (last_cells s)) q.1)))
      (λ p. let w = new_at x p in (
        get_or_append_at empty_cell s.cells (replicate N empty_cell) x w.0 (w.2 ∙ ap (λ (n : ℕ). n + w.0) long_is)
            ∙ get_or_replicate_any empty_cell N w.0,
        not_last x (λ q. let v = i.all_placed.within x (last_held s x q) in omega (arith, w.2)),
      ))
      (held_from x h)

  now_is' : (x : ℕ) → is_in x (held_cells s') ≡ true → get_or (marked new st.fresh) (at m' x) false ≡ false →
      (get_or d (suc (at m' x)) empty_cell).now ≡ (get_or s'.cells x empty_cell).now
  now_is' x h f = ⊎_elim
      (λ p. ap (λ (b : ℕ). (get_or d (suc b) empty_cell).now) (old_at x p)
      ∙ (i.now_is x p (sym (old_bit x p) ∙ f) ∙ ap (λ (y : Cell). y.now) (sym (old_cell x p))))
      (λ p. let w = new_at x p in
      absurd (both_ways (get_or (marked new st.fresh) (at m' x) false) f
      (ap (λ (b : ℕ). get_or (marked new st.fresh) b false) w.3
      ∙ marked_in (at new w.0) new st.fresh (in_nth new w.0 w.1)
      (subst (λ (n : ℕ). at new w.0 < n) (sym i.fresh_long) (new_in w.0 w.1).0))))
      (held_from x h)

  safe' : Safe k Fits l s' d i.root m'
  safe' =
      let sf : Safe k Fits l s d i.root m = i.safe in
      let q : ren (at m) (last s) ≡ ren (at m') (last s') = sym (ap (ren (at m')) last_same ∙ ren_old (last s) (last_held s)) in
      record {
        size = sf.size;
        long = rw (
          length-append m new,
          length-append s.cells (replicate N empty_cell),
          length-replicate N empty_cell,
          new_long,
          long_is,
        );
        placed = record {
          within = λ x h. placed'.within x (old_held x (last_held s x (last_old x h)));
          below =
              λ x h. placed'.below x (old_held x (last_held s x (last_old x h)));
          apart = λ x y h g p. placed'.apart x y (old_held x (last_held s x (last_old x h)))
              (old_held y (last_held s y (last_old y g))) p;
        };
        fits = subst (Fits l) q sf.fits;
        base_fits = sf.base_fits;
        journal_fits = sf.journal_fits;
        journal_ok = sf.journal_ok;
        stored = subst (Stored k l d i.root) q sf.stored;
        covered = λ x h.
            let p : is_in x (last_cells s) ≡ true = last_old x h in
            rw (
              old_at x (last_held s x p),
              get_or_append_left s.cells (replicate N empty_cell) empty_cell x
                  (subst (λ (n : ℕ). x < n) long_is (i.all_placed.within x (last_held s x p))),
            ) (sf.covered x p);
      }

  -- the journal: one more, or it is over
  journal_by : (b : Bool) → has_place k l st c ≡ b → (k.fits l (cond b (longer st c) st.journal) ≡ true) ×
      (ok_journal (cond b (longer st c) st.journal) ≡ true)
      × (not b ≡ false → ready l (eqb (suc st.older) 0)
      (replay l (synced_core l i.root.base) (cond b (longer st c) st.journal)) ≡ record {
        tree =
            next_tree st.tree new c;
        older = suc st.older;
        held = marked new st.held;
      })
  unfolding new
  journal_by false e = (i.journal_fits, i.journal_ok, λ f. absurd (true≢false f))
  journal_by true e =
      let p = and_parts (not st.over) (k.fits l (longer st c)) e in (
        p.1,
        ok-append st.journal (record { first = eqb st.older 0; call = c }) i.journal_ok
            (laws.ok_next l st.tree st.older (count_set st.held) c gl rd st_goes ki i.tree_fits),
        λ f. rw (ne_eqb (suc st.older) 0 (λ z. omega arith)) (replay_more l (synced_core l i.root.base) st.journal
            (record { first = eqb st.older 0; call = c })
            ∙ (ap (λ (x : Core). redo l x c) (i.journal_is (not-true st.over p.0))
            ∙ redo_goes l (record { tree = st.tree; older = st.older; held = st.held }) c st_goes ki)),
      )

  pub pushes : Busy k Fits l s (pushed s c) d []
      (record {
        tree = next_tree st.tree (free (more st.tree c) st.held 0) c;
        older = suc st.older;
        held =
            marked (free (more st.tree c) st.held 0) st.held;
        live = st.live;
        base = st.base;
        fresh = marked (free (more st.tree c) st.held 0) st.fresh;
        journal =
            cond (has_place k l st c) (longer st c) st.journal;
        over = not (has_place k l st c);
      })
  unfolding new did_all good_acts
  pushes = record {
    ends = (
      m',
      record {
        tree_is = tree_is';
        older_is = ap suc i.older_is;
        held_bits = taken_is';
        few = place;
        tree_fits = tree_fits';
        all_placed = placed';
        fresh_long = length_marked new st.fresh ∙ i.fresh_long;
        fresh_is = fresh_is';
        now_is = now_is';
        root = i.root;
        live_is = i.live_is;
        base_is = i.base_is;
        journal_fits = (journal_by (has_place k l st c) refl).0;
        journal_ok = (journal_by (has_place k l st c) refl).1;
        journal_is = (journal_by (has_place k l st c) refl).2;
        safe = safe';
      },
    );
    short = zero-le;
    good = refl;
    fronts = λ n g. rw (take_none n) (before k Fits laws l gl s s' d i.root m g i.safe);
  }
