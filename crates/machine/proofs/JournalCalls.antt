-- A changing call that is not refused can stand in a journal.
use Rattle.std.proofs.Common.{◌≡◌, ℕ, ◌+◌, ◌-◌, ◌<◌, Bool, true, false, cond, ◌&&◌, eqb, ltb, leb, List, [], ◌∷◌, length, get_or, sym, refl, ap, ◌∙◌, subst, ⊎_elim, arith}
use Rattle.std.proofs.lemmas.Bool.{eqb-true, ltb-true, lt-ltb, leb-true, and_parts, and_from, false≢true}
use Rattle.model.specs.Tree.{some_of, Body, Node, Tree, find_node, body_of, is_dir, is_file, entries, cells, named}
use Rattle.model.specs.Calls.{Call, find, make_file, make_dir, remove, rename, list, size, read, write, resize, sync_file, sync_tree}
use Rattle.model.specs.Calls.{garbled, call_number, good_fields, good_name, readable, bytes, eight}
use Rattle.model.specs.Refusals.{Limits, may_change, a_dir, removing, renaming, refusal, refusal_by}
use Rattle.model_facts.proofs.Nodes.{dir_some, file_some}
use Rattle.machine.specs.State.{Sized, Kind, nothing, push_it, write_it, keep_it, sync_it, kind, is_push}
use Rattle.machine.specs.Fits.{ok_call, Fits, every, ok_entry, ok_node}
use Rattle.machine.proofs.Changes.{cond_then, cond_else, cond_case}

-- what is there has a number below the next
there_below : (n i : ℕ) (ts : List Node) → every (ok_node n) ts ≡ true → some_of (find_node i ts) ≡ true → i < n
unfolding every find_node some_of
there_below n i [] o h = absurd (false≢true h)
there_below n i (t ∷ ts) o h =
    let p = and_parts (ok_node n t) (every (ok_node n) ts) o in
    let q = and_parts (ltb t.id n) (every (ok_entry n) (entries (t.body ∷ []))) p.0 in
    ⊎_elim (λ r. subst (λ (x : ℕ). x < n) (sym (eqb-true i t.id r.0)) (ltb-true t.id n q.0))
    (λ r. there_below n i ts p.1 r.1)
    (cond_case (λ (bs : List Body). some_of bs ≡ true) (eqb i t.id) (t.body ∷ []) (find_node i ts) h)

number_ok : (l : Limits) (t : Tree) (i : ℕ) → Fits l t → some_of (body_of t i) ≡ true → ltb i 4294967296 ≡ true
number_ok l t i f h = let p = there_below t.next i t.nodes f.ok h in let q = f.small in lt-ltb i 4294967296 (omega arith)

dir_ok : (l : Limits) (t : Tree) (d x : ℕ) → Fits l t → a_dir t d x ≡ 0 → (ltb d 4294967296 ≡ true) × (x ≡ 0)
dir_ok l t d x f e = let p = cond_then (is_dir (body_of t d)) x 2 e in (number_ok l t d f (dir_some (body_of t d) p.0), p.1)

-- kinds apart
not_push : (k : Kind) → is_push k ≡ false → k ≡ push_it → ⊥
unfolding is_push
not_push k h e = false≢true (sym h ∙ ap is_push e)

ok_by : (l : Limits) (t : Tree) (o h : ℕ) (c : Call) → readable c ≡ true → good_fields c ≡ true → refusal_by l t o h c ≡ 0 →
    kind t c ≡ push_it → Fits l t → ok_call c ≡ true
unfolding ok_call readable good_fields refusal_by kind is_push
ok_by l t o h (find d n) rd gf e k f = absurd (not_push nothing refl k)
ok_by l t o h (make_file d n) rd gf e k f = and_from (ltb d 4294967296) (good_name n && bytes n)
    (dir_ok l t d (cond (some_of (named t d n)) 6 (cond (ltb (length t.nodes) l.nodes_most && ltb t.next 4294967295)
    (may_change l o) 8)) f e).0 (and_from (good_name n) (bytes n) gf (and_parts (eight d) (bytes n) rd).1)
ok_by l t o h (make_dir d n) rd gf e k f = and_from (ltb d 4294967296) (good_name n && bytes n)
    (dir_ok l t d (cond (some_of (named t d n)) 6 (cond (ltb (length t.nodes) l.nodes_most && ltb t.next 4294967295)
    (may_change l o) 8)) f e).0 (and_from (good_name n) (bytes n) gf (and_parts (eight d) (bytes n) rd).1)
ok_by l t o h (remove d n) rd gf e k f = and_from (ltb d 4294967296) (good_name n && bytes n)
    (dir_ok l t d (removing l t o (named t d n)) f e).0 (and_from (good_name n) (bytes n) gf (and_parts (eight d) (bytes n) rd).1)
ok_by l t o h (rename d n b m) rd gf e k f =
    let p = dir_ok l t d (a_dir t b (renaming l t o b m (named t d n))) f e in
    let q = dir_ok l t b (renaming l t o b m (named t d n)) f p.1 in
    let g = and_parts (good_name n) (good_name m) gf in
    let r = and_parts (eight d && bytes n) (eight b && bytes m) rd in
    and_from (ltb d 4294967296 && (good_name n && bytes n)) (ltb b 4294967296 && (good_name m && bytes m))
    (and_from (ltb d 4294967296) (good_name n && bytes n) p.0
    (and_from (good_name n) (bytes n) g.0 (and_parts (eight d) (bytes n) r.0).1))
    (and_from (ltb b 4294967296) (good_name m && bytes m) q.0
    (and_from (good_name m) (bytes m) g.1 (and_parts (eight b) (bytes m) r.1).1))
ok_by l t o h (list d j) rd gf e k f = absurd (not_push nothing refl k)
ok_by l t o h (size i) rd gf e k f = absurd (not_push nothing refl k)
ok_by l t o h (read i p) rd gf e k f = absurd (not_push nothing refl k)
ok_by l t o h (write i p b) rd gf e k f = absurd (not_push (write_it (get_or (cells (body_of t i)) p 0) b) refl k)
ok_by l t o h (resize i n) rd gf e k f =
    let j : ℕ = length (cells (body_of t i)) in
    let p = cond_then (is_file (body_of t i)) (cond (eqb n j) 0 (cond (leb (h + (n - j)) l.room) (may_change l o) 8)) 3 e in
    let q = leb-true n 65536 gf in
    and_from (ltb i 4294967296) (ltb n 4294967296) (number_ok l t i f (file_some (body_of t i) p.0))
    (lt-ltb n 4294967296 (omega arith))
ok_by l t o h (sync_file i) rd gf e k f = absurd (not_push (keep_it (cells (body_of t i))) refl k)
ok_by l t o h sync_tree rd gf e k f = absurd (not_push sync_it refl k)
ok_by l t o h (garbled n) rd gf e k f = absurd (not_push nothing refl k)

pub ok_next : (l : Limits) (t : Tree) (o h : ℕ) (c : Call) → Sized l → readable c ≡ true → refusal l t o h c ≡ 0 → kind t c ≡ push_it →
    Fits l t → ok_call c ≡ true
ok_next l t o h c gl rd e k f =
    let r : ℕ = refusal_by l t o h c in
    let b : Bool = l.calls_can (call_number c) && good_fields c in
    let p = cond_then b r 1 (cond_else (eqb (call_number c) 255) (cond b r 2) 0 e).1 in
    ok_by l t o h c rd (and_parts (l.calls_can (call_number c)) (good_fields c) p.0).1 p.1 k f
