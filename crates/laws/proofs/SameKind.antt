-- Law 12: a rename leaves no file where a directory was, nor a directory where a file was.

-- what is known of a node that another was put in place of
use Rattle.std.proofs.Common.{◌≡◌, ℕ, Bool, eqb, List, [], ◌∷◌, length, sym, refl, ◌∙◌, subst, arith}
use Rattle.std.proofs.lemmas.Bool.{eqb-false, cond_both}
use Rattle.std.proofs.lemmas.Bool.Decides.{nat_tests}
use Rattle.model.specs.Tree.{Name, Tree, some_of, first_of, body_of, is_dir, is_file, entries, named, put_entry, drop_entry, removed}
use Rattle.model.specs.Calls.{rename}
use Rattle.model.specs.Refusals.{Limits, in_place, renaming, refusal_by}
use Rattle.model.specs.Fs.{Fs, turned, push}
use Rattle.model.specs.Laws.{by_name, KindStays}
use Rattle.laws.proofs.Totals.{none}
use Rattle.laws.proofs.Names.{Well}
use Rattle.laws.proofs.Reach.{well}
use Rattle.laws.proofs.Renamed.{named_over, kind_over, renamed}
use Rattle.laws.proofs.Refused.{done_since}

module _ (l : Limits) (t : Tree) (older i j : ℕ) (js : List ℕ) (ne : i ≡ j → ⊥) (h : in_place l t older i (j ∷ js) ≡ 0) where
  was_empty : entries (body_of t j) ≡ []
  unfolding in_place some_of
  was_empty = none _ (grind (arith, nat_tests))

  both_dirs : is_dir (body_of t i) ≡ is_dir (body_of t j)
  unfolding in_place is_dir is_file
  both_dirs = grind (arith, nat_tests)

  both_files : is_file (body_of t i) ≡ is_file (body_of t j)
  unfolding in_place is_dir is_file
  both_files = grind (arith, nat_tests)

may_replace : (l : Limits) (s : Fs) (d e i j : ℕ) (x y : Name) (is js : List ℕ) → named s.tree d x ≡ i ∷ is →
    named s.tree e y ≡ j ∷ js →
    turned l s (rename d x e y) ≡ 0 → in_place l s.tree (length s.older) i (j ∷ js) ≡ 0
unfolding refusal_by renaming
may_replace l s d e i j x y is js p q h =
    let by : renaming l s.tree (length s.older) e y (named s.tree d x) ≡ 0 = grind arith in
    let there : renaming l s.tree (length s.older) e y (i ∷ is) ≡ 0 = rw p at by in
    let free : in_place l s.tree (length s.older) i (named s.tree e y) ≡ 0 = grind arith in
    rw q at free

is_named : (l : Limits) (s : Fs) (d e : ℕ) (x y : Name) → turned l s (rename d x e y) ≡ 0 →
    (i : ℕ) × (is : List ℕ) × (named s.tree d x ≡ i ∷ is)
unfolding refusal_by renaming
is_named l s d e x y h = go (named s.tree d x) refl
  where
    go : (is : List ℕ) → named s.tree d x ≡ is → (i : ℕ) × (is : List ℕ) × (named s.tree d x ≡ i ∷ is)
    go [] p = absurd (grind arith)
    go (i ∷ is) p = (i, is, p)

-- what law 12 says of the file system after the rename
abbrev SameKind : Fs → ℕ → Name → Fs → Type 0
SameKind s e y t = (is_dir (by_name t e y) ≡ is_dir (by_name s e y)) × (is_file (by_name t e y) ≡ is_file (by_name s e y))

renamed_so : (l : Limits) (s : Fs) (d e i j : ℕ) (x y : Name) (is : List ℕ) → Well s.tree → named s.tree d x ≡ i ∷ is →
    named s.tree e y ≡ j ∷ [] → turned l s (rename d x e y) ≡ 0 → (i ≡ j → ⊥) →
    SameKind s e y (push (put_entry e y i (drop_entry d x (removed e y j s.tree))) s)
unfolding first_of is_dir is_file
renamed_so l s d e i j x y is a p q h ne =
    let k = may_replace l s d e i j x y is [] p q h in
    let z : entries (body_of s.tree j) ≡ [] = was_empty l s.tree (length s.older) i j [] ne k in
    let o = named_over s.tree i j d e x y is [] a p q ne z in
    rw (o, q) (
      kind_over s.tree i j d e x y is [] a p q ne z is_dir (λ es bs b. sym b) ∙ both_dirs l s.tree (length s.older) i j [] ne k,
      kind_over s.tree i j d e x y is [] a p q ne z is_file (λ es bs b. grind arith)
          ∙ both_files l s.tree (length s.older) i j [] ne k,
    )

pub kind_stays : (can : ℕ → Bool) → KindStays can
unfolding KindStays
kind_stays can l hs s good r d e j x y h q =
    let (i, is, p) = is_named l s d e x y h in
    subst (SameKind s e y) (sym (done_since l s (rename d x e y) h ∙ renamed s i j d e x y is [] p q))
    (cond_both (eqb i j) s (push (put_entry e y i (drop_entry d x (removed e y j s.tree))) s) (SameKind s e y)
    (λ _. (refl, refl)) (λ ne. renamed_so l s d e i j x y is (well l hs s r) p q h (eqb-false i j ne)))
