-- What two nodes are, and whether one has entries, by what was found.
use Rattle.std.proofs.Common.{◌≡◌, ℕ, Bool, true, false, ◌&&◌, ◌||◌, ltb, List, [], ◌∷◌, length, Some, None, Option, sym, refl, ap₂, arith}
use Rattle.std.proofs.lemmas.Bool.{false≢true, lt-ltb}
use Rattle.model.specs.Tree.{some_of, Name, Entry, Tree, body_of, is_dir, is_file, named}
use Rattle.lookup.specs.declared.search.Named.{Named}
use Rattle.lookup.specs.Found.{NameFound, ids_in}

pub some_none : (es : List Entry) → es ≡ [] → false ≡ some_of es
unfolding some_of
some_none es e = rw e

pub some_count : (es : List Entry) (k : ℕ) → k ≡ length es → ltb 0 k ≡ some_of es
unfolding some_of
some_count [] k e = rw e
some_count (x ∷ es) k e = lt-ltb 0 k (omega arith)

pub none_some : (es : List Entry) → false ≡ some_of es → es ≡ []
unfolding some_of
none_some [] e = refl
none_some (x ∷ es) e = absurd (false≢true e)

-- both directories, or both files
abbrev pub both : Tree → ℕ → ℕ → Bool
both t a b = (is_dir (body_of t a) && is_dir (body_of t b)) || (is_file (body_of t a) && is_file (body_of t b))

pub both_from : (t : Tree) (a b : ℕ) (x y z w : Bool) → is_dir (body_of t a) ≡ x → is_dir (body_of t b) ≡ y →
    is_file (body_of t a) ≡ z → is_file (body_of t b) ≡ w → ((x && y) || (z && w)) ≡ both t a b
both_from t a b x y z w ex ey ez ew = sym (ap₂ ◌||◌ (ap₂ ◌&&◌ ex ey) (ap₂ ◌&&◌ ez ew))

pub neither : (x z : Bool) → false ≡ ((x && false) || (z && false))
neither true true = refl
neither true false = refl
neither false true = refl
neither false false = refl

-- the ids that a search found
pub ids_named : (t : Tree) (d : ℕ) (n : Name) (r : Option Named) → NameFound t d n r → named t d n ≡ ids_in r
ids_named t d n None f = f
ids_named t d n (Some r) f = f.1
