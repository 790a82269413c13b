-- What making, removing and renaming do to a tree: a view with one case for each way and the facts that taking the call gives,
-- so that no other proof looks at the refusals.
use Rattle.std.proofs.Common.{◌≡◌, ℕ, suc, ◌*◌, ◌<◌, true, false, ◌&&◌, eqb, List, [], ◌∷◌, length, refl, arith}
use Rattle.std.proofs.lemmas.Bool.{eqb-false}
use Rattle.std.proofs.lemmas.Bool.Decides.{nat_tests}
use Rattle.model.specs.Tree.{Name, Body, Tree, some_of, first_of, body_of, is_dir, entries, cells, named, put_entry, drop_entry}
use Rattle.model.specs.Tree.{made, removed, moved, without_any, holds}
use Rattle.model.specs.Refusals.{Limits, making, removing, in_place, renaming}

-- the test for being in itself was asked, and said no
abbrev pub NotIn : Tree → ℕ → ℕ → Type 0
NotIn t i e = holds (2 * length t.nodes * suc (length t.nodes)) t i e ≡ false

pub data Change (l : Limits) (t : Tree) : Tree → Type 0 where
  grown : (d : ℕ) (n : Name) (b : Body) → entries (b ∷ []) ≡ [] → cells (b ∷ []) ≡ [] →
      is_dir (body_of t d) ≡ true → named t d n ≡ [] → length t.nodes < l.nodes_most → Change l t (made d n b t)
  fewer : (d : ℕ) (n : Name) (i : ℕ) (is : List ℕ) →
      is_dir (body_of t d) ≡ true → named t d n ≡ i ∷ is → entries (body_of t i) ≡ [] → Change l t (removed d n i t)
  moved_free : (d : ℕ) (n : Name) (e : ℕ) (m : Name) (i : ℕ) (is : List ℕ) → NotIn t i e →
      is_dir (body_of t d) ≡ true → is_dir (body_of t e) ≡ true → named t d n ≡ i ∷ is → named t e m ≡ [] →
      Change l t (put_entry e m i (drop_entry d n t))
  moved_over : (d : ℕ) (n : Name) (e : ℕ) (m : Name) (i : ℕ) (is : List ℕ) (j : ℕ) (js : List ℕ) → NotIn t i e →
      is_dir (body_of t d) ≡ true → is_dir (body_of t e) ≡ true →
      named t d n ≡ i ∷ is → named t e m ≡ j ∷ js → (i ≡ j → ⊥) → entries (body_of t j) ≡ [] →
      Change l t (put_entry e m i (drop_entry d n (removed e m j t)))

-- a change that is taken, which has a place among the older trees
module _ (l : Limits) (t : Tree) (older : ℕ) where
  abbrev Taken : Tree → Type 0
  Taken u = Change l t u × (older < l.pending)

  pub makes : (d : ℕ) (n : Name) (b : Body) → entries (b ∷ []) ≡ [] → cells (b ∷ []) ≡ [] → making l t older d n ≡ 0 →
      Taken (made d n b t)
  unfolding some_of
  makes d n b p q h = (grown d n b p q (grind (arith, nat_tests)) (grind (arith, nat_tests)) (grind (arith, nat_tests)), grind (arith, nat_tests))

  removes_by : (d : ℕ) (n : Name) (is : List ℕ) → named t d n ≡ is → is_dir (body_of t d) ≡ true → removing l t older is ≡ 0 →
      Taken (removed d n (first_of is) t)
  unfolding removing first_of some_of
  removes_by d n [] e x h = absurd (omega arith)
  removes_by d n (i ∷ is) e x h = (fewer d n i is x e (grind (arith, nat_tests)), grind (arith, nat_tests))

  pub removes : (d : ℕ) (n : Name) → is_dir (body_of t d) ≡ true → removing l t older (named t d n) ≡ 0 →
      Taken (removed d n (first_of (named t d n)) t)
  removes d n x h = removes_by d n (named t d n) refl x h

  moves_by : (d : ℕ) (n : Name) (e : ℕ) (m : Name) (i : ℕ) (is js : List ℕ) → named t d n ≡ i ∷ is → named t e m ≡ js →
      is_dir (body_of t d) ≡ true → is_dir (body_of t e) ≡ true → in_place l t older i js ≡ 0 → NotIn t i e →
      (some_of js && eqb i (first_of js)) ≡ false → Taken (put_entry e m i (drop_entry d n (without_any e m js t)))
  unfolding in_place first_of without_any some_of
  moves_by d n e m i is [] p q x y h o f = (moved_free d n e m i is o x y p q, grind (arith, nat_tests))
  moves_by d n e m i is (j ∷ js) p q x y h o f =
      (moved_over d n e m i is j js o x y p q (eqb-false i j f) (grind (arith, nat_tests)), grind (arith, nat_tests))

  renames_by : (d : ℕ) (n : Name) (e : ℕ) (m : Name) (is : List ℕ) → named t d n ≡ is →
      is_dir (body_of t d) ≡ true → is_dir (body_of t e) ≡ true → renaming l t older e m is ≡ 0 →
      (some_of (named t e m) && eqb (first_of is) (first_of (named t e m))) ≡ false → Taken (moved d n e m (first_of is) t)
  unfolding renaming first_of
  renames_by d n e m [] p x y h f = absurd (omega arith)
  renames_by d n e m (i ∷ is) p x y h f = moves_by d n e m i is (named t e m) p refl x y (grind arith) (grind arith) f

  -- to another name than its own
  pub renames : (d : ℕ) (n : Name) (e : ℕ) (m : Name) → is_dir (body_of t d) ≡ true → is_dir (body_of t e) ≡ true →
      renaming l t older e m (named t d n) ≡ 0 →
      (some_of (named t e m) && eqb (first_of (named t d n)) (first_of (named t e m))) ≡ false →
      Taken (moved d n e m (first_of (named t d n)) t)
  renames d n e m x y h f = renames_by d n e m (named t d n) refl x y h f
