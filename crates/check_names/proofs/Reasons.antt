-- The reason why a call that finds, makes or removes is refused, or that it is not, by what was found in the tree.
use Rattle.std.proofs.Common.{◌≡◌, ℕ, true, false, ◌&&◌, ltb, [], ◌∷◌, length, refl, ap₂}
use Rattle.model.specs.Tree.{some_of, Name, Tree, body_of, is_dir, entries, named}
use Rattle.model.specs.Calls.{find, remove}
use Rattle.model.specs.Refusals.{Limits, making, removing, refusal_by}
use Rattle.rows.specs.declared.nodes.Kind.{Kind}
use Rattle.rows.specs.declared.nodes.Kind.TheVariants.{Dir, File}
use Rattle.tables.specs.Edits.{Tables}
use Rattle.std.proofs.Common.{Some, None, Option, List, sym, is_some}
use Rattle.std.proofs.lemmas.Bool.{false≢true}
use Rattle.lookup.specs.Found.{NameFound}
use Rattle.lookup.specs.declared.search.Named.{Named}
use Rattle.lookup.specs.Views.{Sound}
use Rattle.steps.specs.Steps.{make_call}

module _ (l : Limits) (t : Tree) (older held : ℕ) where
  -- names found
  module _ (d : ℕ) (n : Name) where
    pub find_no_dir : is_dir (body_of t d) ≡ false → refusal_by l t older held (find d n) ≡ 3
    unfolding refusal_by
    find_no_dir e = rw e

    pub find_no_name : is_dir (body_of t d) ≡ true → named t d n ≡ [] → refusal_by l t older held (find d n) ≡ 5
    unfolding refusal_by some_of
    find_no_name e f = rw e (rw f)

    pub find_done : (i : ℕ) → is_dir (body_of t d) ≡ true → named t d n ≡ i ∷ [] → refusal_by l t older held (find d n) ≡ 0
    unfolding refusal_by some_of
    find_done i e f = rw e (rw f)

    -- nodes made
    pub make_no_dir : is_dir (body_of t d) ≡ false → making l t older d n ≡ 3
    make_no_dir e = rw e

    module _ (e : is_dir (body_of t d) ≡ true) where
      pub make_taken : some_of (named t d n) ≡ true → making l t older d n ≡ 6
      make_taken f = rw e (rw f)

      module _ (f : some_of (named t d n) ≡ false) where
        pub make_full : (ltb (length t.nodes) l.nodes_most && ltb t.next 4294967295) ≡ false → making l t older d n ≡ 8
        make_full g = rw e (rw f (rw g))

        module _ (g : (ltb (length t.nodes) l.nodes_most && ltb t.next 4294967295) ≡ true) where
          pub make_late : ltb older l.pending ≡ false → making l t older d n ≡ 9
          make_late k = rw e (rw f (rw g (rw k)))

          pub make_done : ltb older l.pending ≡ true → making l t older d n ≡ 0
          make_done k = rw e (rw f (rw g (rw k)))

-- is a name there, by what was found
pub taken_by : (t : Tree) (d : ℕ) (n : Name) (r : Option Named) → NameFound t d n r → some_of (named t d n) ≡ is_some r
unfolding some_of
taken_by t d n None f = rw f
taken_by t d n (Some e) f = rw f.1

pub not_there : (ids : List ℕ) → some_of ids ≡ false → ids ≡ []
unfolding some_of
not_there [] e = refl
not_there (i ∷ is) e = absurd (false≢true (sym e))

-- a directory or a file
pub make_either : (l : Limits) (t : Tree) (older held : ℕ) (k : Kind) (d : ℕ) (n : Name) →
    refusal_by l t older held (make_call k d n) ≡ making l t older d n
unfolding refusal_by
make_either l t older held Dir d n = refl
make_either l t older held File d n = refl

-- room by the tables and by the tree
pub room_same : {l : Limits} {T : Tables} {t : Tree} → Sound l T t →
    (ltb T.used.nodes l.nodes_most && ltb T.used.next 4294967295) ≡
    (ltb (length t.nodes) l.nodes_most && ltb t.next 4294967295)
room_same {l = l} h = ap₂ (λ a b. ltb a l.nodes_most && ltb b 4294967295) h.holds.nodes_used h.holds.next_id

module _ (l : Limits) (t : Tree) (older held : ℕ) where
  -- nodes removed
  module _ (d : ℕ) (n : Name) where
    pub remove_no_dir : is_dir (body_of t d) ≡ false → refusal_by l t older held (remove d n) ≡ 3
    unfolding refusal_by
    remove_no_dir e = rw e

    module _ (e : is_dir (body_of t d) ≡ true) where
      pub remove_no_name : named t d n ≡ [] → refusal_by l t older held (remove d n) ≡ 5
      unfolding refusal_by removing
      remove_no_name f = rw e (rw f)

      module _ (i : ℕ) (f : named t d n ≡ i ∷ []) where
        pub remove_full : some_of (entries (body_of t i)) ≡ true → refusal_by l t older held (remove d n) ≡ 7
        unfolding refusal_by removing
        remove_full g = rw e (rw f (rw g))

        pub remove_late : some_of (entries (body_of t i)) ≡ false → ltb older l.pending ≡ false →
            refusal_by l t older held (remove d n) ≡ 9
        unfolding refusal_by removing
        remove_late g k = rw e (rw f (rw g (rw k)))

        pub remove_done : some_of (entries (body_of t i)) ≡ false → ltb older l.pending ≡ true →
            refusal_by l t older held (remove d n) ≡ 0
        unfolding refusal_by removing
        remove_done g k = rw e (rw f (rw g (rw k)))
