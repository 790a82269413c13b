-- Each call does what is owed of it, by its kind; and so the promises hold of every encoding that keeps its laws.
use Rattle.std.proofs.Common.{◌≡◌, ℕ, suc, ◌<◌, ◌≤◌, Bool, true, false, cond, not, ◌&&◌, eqb, List, [], ◌∷◌, map, length, get_or, sym, refl, ap, ◌∙◌, subst, ⊎_elim, arith}
use lib.ListN.{length-map}
use Rattle.std.proofs.lemmas.List.{get_or-map}
use Rattle.std.proofs.lemmas.Bool.{and_parts, cases_Bool, eqb-true}
use Rattle.model.specs.Tree.{Tree, body_of, cells}
use Rattle.model.specs.Calls.{Call, find, make_file, make_dir, remove, rename, list, size, read, write, resize, sync_file, sync_tree}
use Rattle.model.specs.Calls.{garbled, block, empty_block, call_number, good_fields, readable}
use Rattle.model.specs.Refusals.{Limits, refusal_by}
use Rattle.model.specs.Fs.{reply, Cell, Fs, is_in, held, turned, answer, after}
use Rattle.model.specs.World.{Disk, seen, World, Lived}
use Rattle.model.specs.Promise.{GoodLimits, all_readable, Right, ComesToAnEnd, StaysSmall}
use Rattle.machine.specs.State.{Sized, counts_of, State, ren, Kind, nothing, push_it, write_it, keep_it, sync_it, kind, count_set}
use Rattle.machine.specs.Program.{Encoding, by_checkpoint, by_journal, rested, reply_by, acts_by, next_by, refusal_of, state_says}
use Rattle.machine.specs.Program.{state_does, state_next, program}
use Rattle.machine.proofs.Counting.{length-marks, count_few}
use Rattle.machine.proofs.Invariant.{at, held_cells, Laws, Idle, Busy, CallsGo}
use Rattle.machine.proofs.Lists.{in_nth}
use Rattle.machine.proofs.Disks.{get_or-seen}
use Rattle.machine.proofs.Renaming.{refusal_ren, find_ren, entries_ren, cells_of_ren}
use Rattle.machine.proofs.Changes.{changed_by, changed_is, ren_kind, kind_ren, Fine, fine, cond_then, cond_else, place_in, in_body}
use Rattle.machine.proofs.Counting.{held_count}
use Rattle.machine.proofs.Histories.{Good, all_good, right_by, ends_by, small_by}
use Rattle.machine.proofs.Power.{power_goes}
use Rattle.machine.proofs.Frames.{new_goes}
use Rattle.machine.proofs.Writes.{tree_held, stays, writes, keeps}
use Rattle.machine.proofs.Sync.{syncs, notes}
use Rattle.machine.proofs.Push.{pushes}

count_zero : (ts : List Tree) → length ts ≡ 0 → ts ≡ []
count_zero [] e = refl
count_zero (t ∷ ts) e = let z : ⊥ = omega arith in absurd z

module _ (k : Encoding) (Fits : Limits → Tree → Type 0) (laws : Laws k Fits) (l : Limits) (gl : Sized l)
    (s : Fs) (d : Disk) (st : State) (m : List ℕ) (i : Idle k Fits l s d st m) where
  held_is : count_set st.held ≡ held s
  held_is = ap count_set i.held_bits ∙ held_count l.room m (held_cells s) i.all_placed

  held_short : held s ≤ l.room
  held_short =
      let q = count_few st.held in
      let p : length st.held ≡ l.room = ap length i.held_bits ∙ length-marks l.room 0 (map (at m) (held_cells s)) in
      let r = held_is in
      omega arith

  no_is : (c : Call) → refusal_of l st c ≡ turned l s c
  no_is c = rw (i.tree_is, i.older_is, held_is) (refusal_ren (at m) l s.tree (length s.older) (held s) c)

  -- answers
  answers_by : (c : Call) → refusal_by l s.tree (length s.older) (held s) c ≡ 0 →
      reply_by (ren (at m) s.tree) st.fresh (seen d) c ≡ reply s c
  unfolding reply_by reply refusal_by
  answers_by (find b n) e = simp (find_ren, entries_ren)
  answers_by (make_file b n) e = refl
  answers_by (make_dir b n) e = refl
  answers_by (remove b n) e = refl
  answers_by (rename b n f p) e = refl
  answers_by (list b j) e = simp (find_ren, entries_ren)
  answers_by (size j) e = simp (find_ren, cells_of_ren, length-map)
  answers_by (read j o) e =
      let cs : List ℕ = cells (body_of s.tree j) in
      let p : o < length cs = place_in l s.tree j o e in
      let x : ℕ = get_or cs o 0 in
      let h : is_in x (held_cells s) ≡ true = tree_held s x (in_body x j s.tree.nodes (in_nth cs o p)) in
      let q : get_or (cells (body_of (ren (at m) s.tree) j)) o 0 ≡ at m x = simp (find_ren, cells_of_ren) (get_or-map (at m) cs o 0 0 p) in
      ap block (ap (λ (n : ℕ). cond (get_or st.fresh n false) empty_block (get_or (seen d) (suc n) empty_block)) q
      ∙ ⊎_elim (λ f. rw f (sym (ap (λ (y : Cell). y.now) (i.fresh_is x h f).0))) (λ f. rw f (get_or-seen d (suc (at m x))
      ∙ i.now_is x h f)) (cases_Bool (get_or st.fresh (at m x) false)))
  answers_by (write j o b) e = refl
  answers_by (resize j n) e = refl
  answers_by (sync_file j) e = refl
  answers_by sync_tree e = refl
  answers_by (garbled n) e = refl

  -- by kinds
  module _ (c : Call) (rd : readable c ≡ true) (zero_is : turned l s c ≡ 0) where
    goes : refusal_by l s.tree (length s.older) (held s) c ≡ 0
    goes =
        let r : ℕ = refusal_by l s.tree (length s.older) (held s) c in
        let b : Bool = l.calls_can (call_number c) && good_fields c in
        (cond_then b r 1 (cond_else (eqb (call_number c) 255) (cond b r 2) 0 zero_is).1).1

    fields : good_fields c ≡ true
    fields =
        let r : ℕ = refusal_by l s.tree (length s.older) (held s) c in
        let b : Bool = l.calls_can (call_number c) && good_fields c in
        (and_parts (l.calls_can (call_number c)) (good_fields c)
        (cond_then b r 1 (cond_else (eqb (call_number c) 255) (cond b r 2) 0 zero_is).1).0).1

    st_goes : refusal_of l st c ≡ 0
    st_goes = no_is c ∙ zero_is

    by_kind : (q : Kind) → Fine l s.tree (length s.older) (held s) c q →
        Busy k Fits l s (changed_by s c q) d (acts_by k l st (ren_kind (at m) q)) (next_by k l st c (ren_kind (at m) q))
    unfolding Fine changed_by acts_by next_by ren_kind
    by_kind nothing f = stays k Fits laws l gl s d st m i
    by_kind push_it f = pushes k Fits laws l gl s d st m i c rd goes st_goes (ap (λ (t : Tree). kind t c) i.tree_is
        ∙ (kind_ren (at m) l s.tree (length s.older) (held s) c goes ∙ ap (ren_kind (at m)) f.2)) f.0 f.1
    by_kind (write_it x b) f = writes k Fits laws l gl s d st m i x b f.0 f.1
    by_kind (keep_it xs) f = keeps k Fits laws l gl s d st m i xs
    by_kind sync_it f = ⊎_elim
        (λ p. let e : s.older ≡ [] = count_zero s.older (sym i.older_is ∙ eqb-true st.older 0 p) in
        rw p (subst (λ (x : Fs). Busy k Fits l s x d [] st)
        (ap {B = Fs} (λ ts. record { tree = s.tree; older = ts; cells = s.cells }) e) (stays k Fits laws l gl s d st m i)))
        (λ (p : eqb st.older 0 ≡ false). ⊎_elim
        (λ (o : st.over ≡ true). rw (p, o)
        (subst (λ (t : Tree). Busy k Fits l s (record { tree = s.tree; older = []; cells = s.cells }) d
        (by_checkpoint k l (not st.live) st.fresh t) (rested l (not st.live) (counts_of t) [] t)) (sym i.tree_is)
        (syncs k Fits laws l gl s d st m i)))
        (λ (o : st.over ≡ false). rw (p, o)
        (subst (λ (t : Tree). Busy k Fits l s (record { tree = s.tree; older = []; cells = s.cells }) d
        (by_journal k l st.live st.base st.journal st.fresh t) (rested l st.live st.base st.journal t))
        (sym i.tree_is) (notes k Fits laws l gl s d st m i o)))
        (cases_Bool st.over))
        (cases_Bool (eqb st.older 0))

    goes_on : (state_says l st (seen d) c ≡ answer l s c) × Busy k Fits l s (after l s c) d (state_does k l st c) (state_next k l st c)
    goes_on =
        let q : Kind = kind s.tree c in
        let kind-is : kind st.tree c ≡ ren_kind (at m) q = ap (λ (t : Tree). kind t c) i.tree_is
        ∙ kind_ren (at m) l s.tree (length s.older) (held s) c goes in
        let says : reply_by st.tree st.fresh (seen d) c ≡ reply s c = ap (λ (t : Tree). reply_by t st.fresh (seen d) c)
        i.tree_is ∙ answers_by c goes in
        rw (st_goes, zero_is)
        (says, rw (kind-is, changed_is s c) (by_kind q (fine l s.tree (length s.older) (held s) c held_short rd fields goes)))

  stops : (c : Call) → eqb (turned l s c) 0 ≡ false → (state_says l st (seen d) c ≡ answer l s c) ×
      Busy k Fits l s (after l s c) d (state_does k l st c) (state_next k l st c)
  stops c e = rw (no_is c, e) (refl, stays k Fits laws l gl s d st m i)

pub calls_go : (k : Encoding) (Fits : Limits → Tree → Type 0) → Laws k Fits → CallsGo k Fits
calls_go k Fits laws l s d st m c gl i rd = ⊎_elim
    (λ e. goes_on k Fits laws l gl s d st m i c rd (eqb-true (turned l s c) 0 e))
    (λ e. stops k Fits laws l gl s d st m i c e)
    (cases_Bool (eqb (turned l s c) 0))

-- THE MAIN PROMISE, for any encodings that keep their laws; and that all comes to an end, and stays small
pub right : (k : Encoding) (Fits : Limits → Tree → Type 0) → Laws k Fits → (can : ℕ → Bool) → Right can (program k)
right k Fits laws = right_by k Fits laws (calls_go k Fits laws) (power_goes k Fits laws) (new_goes k Fits laws)

pub ends : (k : Encoding) (Fits : Limits → Tree → Type 0) → Laws k Fits → (can : ℕ → Bool) → ComesToAnEnd can (program k)
ends k Fits laws = ends_by k Fits laws (calls_go k Fits laws) (power_goes k Fits laws) (new_goes k Fits laws)

pub small : (k : Encoding) (Fits : Limits → Tree → Type 0) → Laws k Fits → (can : ℕ → Bool) → StaysSmall can (program k)
small k Fits laws = small_by k Fits laws (calls_go k Fits laws) (power_goes k Fits laws) (new_goes k Fits laws)

-- and how things stand, always
pub good : (k : Encoding) (Fits : Limits → Tree → Type 0) → Laws k Fits → (can : ℕ → Bool) (l : Limits) (w : World) →
    GoodLimits can l → Lived (program k) l w → all_readable w.past ≡ true → Good k Fits l w
good k Fits laws = all_good k Fits laws (calls_go k Fits laws) (power_goes k Fits laws) (new_goes k Fits laws)
