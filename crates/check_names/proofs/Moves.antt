-- The reason why a rename is refused, or that it is not, by what was found in the tree.
use Rattle.std.proofs.Common.{◌≡◌, ℕ, suc, ◌+◌, ◌*◌, true, false, ltb, List, [], ◌∷◌, length, sym, refl, ap, ◌∙◌, arith}
use Rattle.std.proofs.lemmas.Bool.{eq-eqb, ne_eqb, ltb-true}
use Rattle.model.specs.Tree.{some_of, Name, Tree, body_of, is_dir, entries, named, holds}
use Rattle.model.specs.Calls.{rename}
use Rattle.model.specs.Refusals.{Limits, may_change, in_place, renaming, refusal_by}
use Rattle.steps.specs.Steps.{Way, steps_down}
use Rattle.lookup.proofs.Alike.{both, none_some}

-- nothing has the new name, or another node of the same kind without entries
pub data Clear (t : Tree) (i : ℕ) (js : List ℕ) : Type 0 where
  free : js ≡ [] → Clear t i js
  other : (j : ℕ) → js ≡ j ∷ [] → (i ≡ j → ⊥) → both t i j ≡ true → false ≡ some_of (entries (body_of t j)) → Clear t i js

module _ (l : Limits) (t : Tree) (older i : ℕ) where
  module _ (j : ℕ) where
    self : i ≡ j → in_place l t older i (j ∷ []) ≡ 0
    unfolding in_place
    self e = rw (eq-eqb i j e)

    unlike : (i ≡ j → ⊥) → both t i j ≡ false → in_place l t older i (j ∷ []) ≡ 7
    unfolding in_place
    unlike ne b = rw (ne_eqb i j ne) (rw b)

    full : (i ≡ j → ⊥) → both t i j ≡ true → some_of (entries (body_of t j)) ≡ true → in_place l t older i (j ∷ []) ≡ 7
    unfolding in_place
    full ne b s = rw (ne_eqb i j ne) (rw b (rw s))

    away : (i ≡ j → ⊥) → both t i j ≡ true → some_of (entries (body_of t j)) ≡ false → in_place l t older i (j ∷ []) ≡ may_change l older
    unfolding in_place
    away ne b s = rw (ne_eqb i j ne) (rw b (rw s))

  none : in_place l t older i [] ≡ may_change l older
  unfolding in_place
  none = refl

  module _ (js : List ℕ) where
    pub place_self : (j : ℕ) → js ≡ j ∷ [] → i ≡ j → in_place l t older i js ≡ 0
    place_self j e q = ap (in_place l t older i) e ∙ self j q

    pub place_unlike : (j : ℕ) → js ≡ j ∷ [] → (i ≡ j → ⊥) → both t i j ≡ false → in_place l t older i js ≡ 7
    place_unlike j e ne b = ap (in_place l t older i) e ∙ unlike j ne b

    pub place_full : (j : ℕ) → js ≡ j ∷ [] → (i ≡ j → ⊥) → both t i j ≡ true → some_of (entries (body_of t j)) ≡ true →
        in_place l t older i js ≡ 7
    place_full j e ne b s = ap (in_place l t older i) e ∙ full j ne b s

    cleared : Clear t i js → in_place l t older i js ≡ may_change l older
    cleared (free e) = ap (in_place l t older i) e ∙ none
    cleared (other j e ne b s) = ap (in_place l t older i) e ∙ away j ne b (sym s)

    pub place_late : Clear t i js → ltb older l.pending ≡ false → in_place l t older i js ≡ 9
    place_late c k = cleared c ∙ (rw k)

    pub place_done : Clear t i js → ltb older l.pending ≡ true → in_place l t older i js ≡ 0
    place_done c k = cleared c ∙ (rw k)

    pub place_way : Clear t i js → ltb older l.pending ≡ true → Way l t older i js
    place_way (free e) k = record {
      older_room = ltb-true older l.pending k;
      apart = λ j q. let z : ◌≡◌ {A = List ℕ} [] (j ∷ []) = sym e ∙ q in absurd (nil_cons j z);
      empty = λ j q. let z : ◌≡◌ {A = List ℕ} [] (j ∷ []) = sym e ∙ q in absurd (nil_cons j z);
    }
      where
        nil_cons : (j : ℕ) → ◌≡◌ {A = List ℕ} [] (j ∷ []) → ⊥
        nil_cons j z = let w : ◌≡◌ {A = ℕ} 0 1 = cc in omega arith
    place_way (other j e ne b s) k = record {
      older_room = ltb-true older l.pending k;
      apart = λ x q w. let z : j ≡ x = cc in ne (w ∙ sym z);
      empty = λ x q. let z : j ≡ x = cc in ap (λ n. entries (body_of t n)) (sym z) ∙ none_some (entries (body_of t j)) s;
    }

module _ (l : Limits) (t : Tree) (older held d : ℕ) (n : Name) (e : ℕ) (m : Name) where
  pub rename_no_source : is_dir (body_of t d) ≡ false → refusal_by l t older held (rename d n e m) ≡ 3
  unfolding refusal_by
  rename_no_source a = rw a

  module _ (a : is_dir (body_of t d) ≡ true) where
    pub rename_no_target : is_dir (body_of t e) ≡ false → refusal_by l t older held (rename d n e m) ≡ 3
    unfolding refusal_by
    rename_no_target b = rw a (rw b)

    module _ (b : is_dir (body_of t e) ≡ true) where
      pub rename_no_name : named t d n ≡ [] → refusal_by l t older held (rename d n e m) ≡ 5
      unfolding refusal_by renaming
      rename_no_name f = rw a (rw b (rw f))

      module _ (i : ℕ) (f : named t d n ≡ i ∷ []) where
        pub rename_inside : holds (steps_down t) t i e ≡ true → refusal_by l t older held (rename d n e m) ≡ 7
        unfolding refusal_by renaming
        rename_inside g = rw a (rw b (rw f (rw g)))

        pub rename_outside : holds (steps_down t) t i e ≡ false →
            refusal_by l t older held (rename d n e m) ≡ in_place l t older i (named t e m)
        unfolding refusal_by renaming
        rename_outside g = rw a (rw b (rw f (rw g)))

-- as many steps by the tables as by the tree
pub fuel_same : (t : Tree) (n : ℕ) → n ≡ length t.nodes → (i j : ℕ) → holds (steps_down t) t i j ≡ holds (2 * n * (n + 1)) t i j
fuel_same t n e i j =
    let z : suc n ≡ n + 1 = omega arith in
    ap (λ k. holds (2 * k * suc k) t i j) (sym e) ∙ ap (λ k. holds (2 * n * k) t i j) z
