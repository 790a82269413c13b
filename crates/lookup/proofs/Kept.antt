-- What was found, kept only if it is of one kind; and whether two nodes are of one kind, by what was found of each.
use Rattle.std.proofs.Common.{◌≡◌, ℕ, Bool, true, false, ◌⊎◌, Some, None, Option, MatchOption, nat_lt, inl, inr, refl, ap, ◌∙◌}
use Rattle.model.specs.Tree.{Tree, body_of, is_dir, is_file, entries, some_of}
use Rattle.tables.proofs.Bodies.{dir_at, file_at}
use Rattle.rows.specs.declared.nodes.Place.{Place}
use Rattle.rows.specs.declared.nodes.Kind.{Kind}
use Rattle.rows.specs.declared.nodes.Kind.TheVariants.{Dir, File}
use Rattle.rows.specs.Kinds.{kind_number}
use Rattle.rows.specs.Places.{place_in}
use Rattle.lookup.specs.Found.{NodeFound, DirFound, FileFound}
use Rattle.lookup.proofs.Places.{no_dir, no_file, not_dir, not_file}
use Rattle.lookup.proofs.Alike.{both, both_from, neither, some_none, some_count}
use Rattle.lookup.proofs.Down.{no_entries}

-- what is of a kind stays, what is of the other does not
abbrev pub Kept : Kind → Kind → Option Place → Option Place → Type 0
Kept k other r q = MatchOption r (q ≡ None) (λ x. ((x.kind ≡ k) × (q ≡ Some x)) ⊎ ((x.kind ≡ other) × (q ≡ None)))

pub dir_found : (t : Tree) (i : ℕ) (r q : Option Place) → Kept Dir File r q → NodeFound t i r → DirFound t i q
dir_found t i None q e f = rw e (no_dir t i f)
dir_found t i (Some p) q e f = elim e [
  | inl a ↦ rw a.1 ((f, ap kind_number a.0))
  | inr b ↦ rw b.1 (not_dir t i (place_in p) f (ap kind_number b.0))
]

pub file_found : (t : Tree) (i : ℕ) (r q : Option Place) → Kept File Dir r q → NodeFound t i r → FileFound t i q
file_found t i None q e f = rw e (no_file t i f)
file_found t i (Some p) q e f = elim e [
  | inl a ↦ rw a.1 ((f, ap kind_number a.0))
  | inr b ↦ rw b.1 (not_file t i (place_in p) f (ap kind_number b.0))
]

-- has a directory entries, by their count
pub entries_by : (t : Tree) (i : ℕ) (r : Option Place) (b : Bool) → MatchOption r (b ≡ false) (λ p. b ≡ nat_lt 0 p.count) →
    DirFound t i r → b ≡ some_of (entries (body_of t i))
entries_by t i None b e f = e ∙ some_none (entries (body_of t i)) (no_entries (body_of t i) f)
entries_by t i (Some p) b e f = e ∙ some_count (entries (body_of t i)) p.count (dir_at f.0 f.1).many

-- of one kind, or of two
abbrev pub SameKind : Option Place → Option Place → Bool → Type 0
SameKind r q b =
    MatchOption r (b ≡ false) (λ x. MatchOption q (b ≡ false) (λ y.
    ((x.kind ≡ y.kind) × (b ≡ true)) ⊎ ((x.kind ≡ y.kind → ⊥) × (b ≡ false))))

module _ (t : Tree) (a b : ℕ) (x : Bool) where
  both_found : (p q : Place) (k m : Kind) → p.kind ≡ k → q.kind ≡ m → ((k ≡ m) × (x ≡ true)) ⊎ ((k ≡ m → ⊥) × (x ≡ false)) →
      NodeFound t a (Some p) → NodeFound t b (Some q) → x ≡ both t a b
  both_found p q Dir Dir u v e f g =
      let c = dir_at f (ap kind_number u) in
      let d = dir_at g (ap kind_number v) in
      elim e [ inl y ↦ y.1 | inr n ↦ absurd (n.0 refl) ]
      ∙ both_from t a b true true false false c.dir d.dir c.no_file d.no_file
  both_found p q Dir File u v e f g =
      let c = dir_at f (ap kind_number u) in
      let d = file_at g (ap kind_number v) in
      elim e [ inl y ↦ absurd (dir_file y.0) | inr n ↦ n.1 ]
      ∙ both_from t a b true false false true c.dir d.no_dir c.no_file d.file
    where
      dir_file : Dir ≡ File → ⊥
      dir_file z = cc
  both_found p q File Dir u v e f g =
      let c = file_at f (ap kind_number u) in
      let d = dir_at g (ap kind_number v) in
      elim e [ inl y ↦ absurd (file_dir y.0) | inr n ↦ n.1 ]
      ∙ both_from t a b false true true false c.no_dir d.dir c.file d.no_file
    where
      file_dir : File ≡ Dir → ⊥
      file_dir z = cc
  both_found p q File File u v e f g =
      let c = file_at f (ap kind_number u) in
      let d = file_at g (ap kind_number v) in
      elim e [ inl y ↦ y.1 | inr n ↦ absurd (n.0 refl) ]
      ∙ both_from t a b false false true true c.no_dir d.no_dir c.file d.file

  pub alike_by : (r q : Option Place) → SameKind r q x → NodeFound t a r → NodeFound t b q → x ≡ both t a b
  alike_by None q e f g =
      e ∙ both_from t a b false (is_dir (body_of t b)) false (is_file (body_of t b)) (no_dir t a f) refl (no_file t a f) refl
  alike_by (Some p) None e f g =
      e ∙ (neither (is_dir (body_of t a)) (is_file (body_of t a))
      ∙ both_from t a b (is_dir (body_of t a)) false (is_file (body_of t a)) false refl (no_dir t b g) refl (no_file t b g))
  alike_by (Some p) (Some q) e f g = both_found p q p.kind q.kind refl refl e f g
