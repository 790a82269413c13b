-- Whatever journal is done again over a tree that fits, each tree on the way fits, and its blocks are held.
use Rattle.std.proofs.Common.{◌≡◌, ℕ, ◌+◌, ◌<◌, ◌≤◌, Bool, true, false, cond, ◌&&◌, eqb, ltb, List, [], ◌∷◌, length, get_or, sym, refl, ◌∙◌, subst, ⊎_elim, zero-le, zero-add, arith}
use Rattle.std.proofs.lemmas.Bool.{eqb-true, ltb-true, lt-ltb, and_parts, and_from, both_ways, false≢true, cases_Bool}
use Rattle.model.specs.Tree.{Name, Tree, all_cells}
use Rattle.model.specs.Calls.{Call, find, make_file, make_dir, remove, rename, list, size, read, write, resize, sync_file, sync_tree}
use Rattle.model.specs.Calls.{garbled, call_number, good_fields, good_name, readable, bytes, eight}
use Rattle.model.specs.Refusals.{Limits, refusal, refusal_by}
use Rattle.model.specs.Fs.{is_in}
use Rattle.machine.specs.State.{Sized, Item, Core, step, redo, is_push, synced_core, ready, replay, Kind, nothing, push_it, write_it}
use Rattle.machine.specs.State.{keep_it, sync_it, kind, more, count_set, free, marked}
use Rattle.machine.specs.Fits.{ok_name, ok_call, ok_journal, Fits}
use Rattle.machine.specs.Bounds.{ReplayFits}
use Rattle.machine.specs.Kept.{CoreCarries, CarriedRedo}
use Rattle.machine.proofs.Invariant.{at}
use Rattle.machine.proofs.Changes.{cond_then, cond_else, Fine, fine, next_from}
use Rattle.machine.proofs.Counting.{length-marks, count_few, length_marked, marked_out, marked_in, have_marks, free-length}
use Rattle.machine.proofs.Counting.{free_apart, free_open}
use Rattle.machine.proofs.Fits.{fits_next}

-- what a journal can carry, a call can
eight_of : (d : ℕ) → ltb d 4294967296 ≡ true → eight d ≡ true
eight_of d h = let p = ltb-true d 4294967296 h in lt-ltb d 18446744073709551616 (omega arith)

named_of : (d : ℕ) (n : Name) → (ltb d 4294967296 && ok_name n) ≡ true → (eight d && bytes n) ≡ true
named_of d n h = let p = and_parts (ltb d 4294967296) (ok_name n) h in
    and_from (eight d) (bytes n) (eight_of d p.0) (and_parts (good_name n) (bytes n) p.1).1

pub ok_readable : (c : Call) → ok_call c ≡ true → readable c ≡ true
unfolding ok_call readable
ok_readable (find d n) h = absurd (false≢true h)
ok_readable (make_file d n) h = named_of d n h
ok_readable (make_dir d n) h = named_of d n h
ok_readable (remove d n) h = named_of d n h
ok_readable (rename d n e m) h = let p = and_parts (ltb d 4294967296 && ok_name n) (ltb e 4294967296 && ok_name m) h in
    and_from (eight d && bytes n) (eight e && bytes m) (named_of d n p.0) (named_of e m p.1)
ok_readable (list d k) h = absurd (false≢true h)
ok_readable (size i) h = absurd (false≢true h)
ok_readable (read i o) h = absurd (false≢true h)
ok_readable (write i o b) h = absurd (false≢true h)
ok_readable (resize i n) h = let p = and_parts (ltb i 4294967296) (ltb n 4294967296) h in
    and_from (eight i) (eight n) (eight_of i p.0) (eight_of n p.1)
ok_readable (sync_file i) h = absurd (false≢true h)
ok_readable sync_tree h = absurd (false≢true h)
ok_readable (garbled n) h = absurd (false≢true h)

push_is : (k : Kind) → is_push k ≡ true → k ≡ push_it
unfolding is_push
push_is nothing h = absurd (false≢true h)
push_is push_it h = refl
push_is (write_it x b) h = absurd (false≢true h)
push_is (keep_it xs) h = absurd (false≢true h)
push_is sync_it h = absurd (false≢true h)

pub carried_synced : (l : Limits) (t : Tree) → Fits l t → CoreCarries l (synced_core l t)
carried_synced l t f = record {
  tree_fits = f;
  few_older = zero-le;
  held_long = length-marks l.room 0 (all_cells t.nodes);
  own_held = λ b h. have_marks l.room 0 b (all_cells t.nodes) (f.inside b h)
      (subst (λ (x : ℕ). is_in x (all_cells t.nodes) ≡ true) (sym (zero-add b)) h);
}

ready_carried : (l : Limits) (first : Bool) (x : Core) → CoreCarries l x → CoreCarries l (ready l first x)
ready_carried l true x s = carried_synced l x.tree s.tree_fits
ready_carried l false x s = s

-- one step: there are as many free blocks as it wants, and the next tree fits
module _ (l : Limits) (gl : Sized l) (x : Core) (s : CoreCarries l x) (c : Call) (rd : readable c ≡ true)
    (goes : refusal l x.tree x.older (count_set x.held) c ≡ 0) (ki : kind x.tree c ≡ push_it) where
  abbrev new : List ℕ
  new = free (more x.tree c) x.held 0

  parts : (good_fields c ≡ true) × (refusal_by l x.tree x.older (count_set x.held) c ≡ 0)
  parts =
      let r : ℕ = refusal_by l x.tree x.older (count_set x.held) c in
      let b : Bool = l.calls_can (call_number c) && good_fields c in
      let p = cond_then b r 1 (cond_else (eqb (call_number c) 255) (cond b r 2) 0 goes).1 in
      ((and_parts (l.calls_can (call_number c)) (good_fields c) p.0).1, p.1)

  can : (count_set x.held + more x.tree c ≤ l.room) × (x.older < l.pending)
  unfolding Fine
  can =
      let q = count_few x.held in
      let w = s.held_long in
      let f : Fine l x.tree x.older (count_set x.held) c push_it =
      subst (λ (k : Kind). Fine l x.tree x.older (count_set x.held) c k) ki
      (fine l x.tree x.older (count_set x.held) c (omega arith) rd parts.0 parts.1) in
      (f.0, f.1)

  new_long : length new ≡ more x.tree c
  new_long = let q = can.0 in let w = s.held_long in free-length (more x.tree c) x.held 0 (omega arith)

  new_in : (j : ℕ) → j < length new → (at new j < l.room) × (is_in (at new j) (all_cells x.tree.nodes) ≡ false)
  new_in j h =
      let q = free_open (more x.tree c) x.held j h in (
        subst (λ (n : ℕ). at new j < n) s.held_long q.0,
        ⊎_elim (λ p. absurd (both_ways (get_or x.held (at new j) false) q.1 (s.own_held (at new j) p))) (λ p. p)
            (cases_Bool (is_in (at new j) (all_cells x.tree.nodes))),
      )

  next_fits : Fits l (step x c).tree
  next_fits = fits_next l x.tree x.older (count_set x.held) new c gl rd goes ki s.tree_fits new_long new_in
      (λ i j p h. free_apart (more x.tree c) x.held 0 i j p h)

  -- a block of the next tree is a new one, or was held before
  next_held : (b : ℕ) → is_in b (all_cells (step x c).tree.nodes) ≡ true → get_or (marked new x.held) b false ≡ true
  next_held b h = ⊎_elim
      (λ p. marked_in b new x.held p (subst (λ (n : ℕ). b < n) (sym s.held_long) (next_fits.inside b h)))
      (λ p. marked_out b new x.held p
      ∙ ⊎_elim (λ q. s.own_held b q) (λ q. absurd (both_ways (is_in b new) p q)) (next_from b x.tree new c h))
      (cases_Bool (is_in b new))

  pub carried_step : CoreCarries l (step x c)
  carried_step = record {
    tree_fits = next_fits;
    few_older = can.1;
    held_long = length_marked new x.held ∙ s.held_long;
    own_held = next_held;
  }

redo_carried : (l : Limits) → Sized l → (x : Core) → CoreCarries l x → (c : Call) → ok_call c ≡ true → CoreCarries l (redo l x c)
redo_carried l gl x s c ok = go (eqb (refusal l x.tree x.older (count_set x.held) c) 0 && is_push (kind x.tree c)) refl
  where
    go : (b : Bool) → (eqb (refusal l x.tree x.older (count_set x.held) c) 0 && is_push (kind x.tree c)) ≡ b →
        CoreCarries l (cond b (step x c) x)
    go false e = s
    go true e =
        let p = and_parts (eqb (refusal l x.tree x.older (count_set x.held) c) 0) (is_push (kind x.tree c)) e in
        carried_step l gl x s c (ok_readable c ok) (eqb-true (refusal l x.tree x.older (count_set x.held) c) 0 p.0)
        (push_is (kind x.tree c) p.1)

pub carried_redo : CarriedRedo
carried_redo l x first c gl s ok = redo_carried l gl (ready l first x) (ready_carried l first x s) c ok

-- WHATEVER THE JOURNAL: and so of each front of it
carried_replay : (l : Limits) → Sized l → (is : List Item) (x : Core) → CoreCarries l x → ok_journal is ≡ true →
    CoreCarries l (replay l x is)
unfolding replay ok_journal
carried_replay l gl [] x s h = s
carried_replay l gl (i ∷ is) x s h =
    let p = and_parts (ok_call i.call) (ok_journal is) h in
    carried_replay l gl is (redo l (ready l i.first x) i.call) (carried_redo l x i.first i.call gl s p.0) p.1

pub replay_fits : ReplayFits
replay_fits l t js gl f ok = (carried_replay l gl js (synced_core l t) (carried_synced l t f) ok).tree_fits
