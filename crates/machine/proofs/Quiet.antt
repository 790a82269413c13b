-- Looking does nothing to the disk, and neither does what is refused.
use Rattle.std.proofs.Common.{◌≡◌, ℕ, Bool, true, false, cond, eqb, List, [], sym, refl, ap, ◌∙◌}
use Rattle.std.proofs.lemmas.Bool.{false≢true, true≢false}
use Rattle.model.specs.Tree.{Tree}
use Rattle.model.specs.Calls.{Block, Call, find, make_file, make_dir, remove, rename, list, size, read, write, resize, sync_file}
use Rattle.model.specs.Calls.{sync_tree, garbled, Answer, refused, done, number, entry, block, place, looks}
use Rattle.model.specs.World.{Act, seen}
use Rattle.model.specs.Promise.{LookingDoesNothing, RefusingDoesNothing}
use Rattle.machine.specs.State.{State, nothing, kind}
use Rattle.machine.specs.Program.{Encoding, acts_by, reply_by, refusal_of, program}

looks_kind : (t : Tree) (c : Call) → looks c ≡ true → kind t c ≡ nothing
unfolding looks kind
looks_kind t (find d n) h = refl
looks_kind t (make_file d n) h = absurd (false≢true h)
looks_kind t (make_dir d n) h = absurd (false≢true h)
looks_kind t (remove d n) h = absurd (false≢true h)
looks_kind t (rename d n e m) h = absurd (false≢true h)
looks_kind t (list d k) h = refl
looks_kind t (size i) h = refl
looks_kind t (read i o) h = refl
looks_kind t (write i o b) h = absurd (false≢true h)
looks_kind t (resize i n) h = absurd (false≢true h)
looks_kind t (sync_file i) h = absurd (false≢true h)
looks_kind t sync_tree h = absurd (false≢true h)
looks_kind t (garbled n) h = refl

cond_same : {A : Type 0} (b : Bool) (x : A) → cond b x x ≡ x
cond_same true x = refl
cond_same false x = refl

pub looking : (k : Encoding) (can : ℕ → Bool) → LookingDoesNothing can (program k)
unfolding LookingDoesNothing acts_by
looking k can l w c gl lv ar rd h up todo under =
    let st : State = k.decode l w.memory in
    rw (looks_kind st.tree c h) (cond_same (eqb (refusal_of l st c) 0) [])

-- an answer that isn't a refusal
unfoldable is_refused : Answer → Bool
is_refused (refused r p) = true
is_refused done = false
is_refused (number n) = false
is_refused (entry x i) = false
is_refused (block b) = false

never_refused : (t : Tree) (fs : List Bool) (bs : List Block) (c : Call) → is_refused (reply_by t fs bs c) ≡ false
unfolding is_refused reply_by
never_refused t fs bs (find d n) = refl
never_refused t fs bs (make_file d n) = refl
never_refused t fs bs (make_dir d n) = refl
never_refused t fs bs (remove d n) = refl
never_refused t fs bs (rename d n e m) = refl
never_refused t fs bs (list d k) = refl
never_refused t fs bs (size i) = refl
never_refused t fs bs (read i o) = refl
never_refused t fs bs (write i o b) = refl
never_refused t fs bs (resize i n) = refl
never_refused t fs bs (sync_file i) = refl
never_refused t fs bs sync_tree = refl
never_refused t fs bs (garbled n) = refl

turned_quiet : (b : Bool) (x : Answer) (xs : List Act) (r p m q : ℕ) → is_refused x ≡ false → cond b x (refused m q) ≡ refused r p →
    cond b xs [] ≡ []
unfolding is_refused
turned_quiet true x xs r p m q h e = absurd (true≢false (ap is_refused (sym e) ∙ h))
turned_quiet false x xs r p m q h e = refl

pub refusing : (k : Encoding) (can : ℕ → Bool) → RefusingDoesNothing can (program k)
unfolding RefusingDoesNothing
refusing k can l w c r p gl lv ar rd up todo under h =
    let st : State = k.decode l w.memory in
    turned_quiet (eqb (refusal_of l st c) 0) (reply_by st.tree st.fresh (seen w.disk) c) (acts_by k l st (kind st.tree c)) r
    p (refusal_of l st c) (place c) (never_refused st.tree st.fresh (seen w.disk) c) h
