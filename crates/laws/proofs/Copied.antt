-- Law 7: a file renamed over another, both synced: after power is lost, by the name there is the one or the other, whole.
use Rattle.std.proofs.Common.{◌≡◌, ℕ, zero, suc, ◌<◌, true, cond, eqb, ◌⊎◌, List, [], ◌∷◌, length, get_or, sym, refl, ap, ◌∙◌, subst, ap₂, inl, inr, arith}
use Rattle.std.proofs.lemmas.Bool.{eqb-false, cond_both}
use Rattle.model.specs.Tree.{Name, Body, first_of, body_of, is_file, entries, cells, named, put_entry, drop_entry, removed, file}
use Rattle.model.specs.Calls.{Block, call_number, good_fields, rename, sync_file}
use Rattle.model.specs.Refusals.{Limits, refusal_by}
use Rattle.model.specs.Fs.{Cell, Fs, empty_cell, turned, push, kept_all, with_cells, changed, after, chosen, lost}
use Rattle.model.specs.Laws.{by_name, all_now, has, CopiedWhole}
use Rattle.model_facts.proofs.Cells.{nth_one, now_all}
use Rattle.laws.proofs.Refused.{done_since}
use Rattle.laws.proofs.Kept.{all_stay, all_here, chosen_kept}
use Rattle.laws.proofs.Names.{Well}
use Rattle.laws.proofs.Reach.{well}
use Rattle.laws.proofs.Renamed.{named_over, body_over, renamed}

-- what a file has, by what its cells have
has_same : (v s : Fs) (ks : List ℕ) →
    ((o : ℕ) → o < length ks → (get_or v.cells (get_or ks o 0) empty_cell).now ≡ (get_or s.cells (get_or ks o 0) empty_cell).now) →
    has v (file ks ∷ []) ≡ has s (file ks ∷ [])
unfolding cells all_now
has_same v s [] f = refl
has_same v s (k ∷ ks) f = ap₂ {C = List Block} (λ a b. a ∷ b) (f 0 (omega arith)) (has_same v s ks (λ o h. f (suc o) (omega arith)))

has_by : (v s : Fs) (bs : List Body) →
    ((o : ℕ) → o < length (cells bs) →
    (get_or v.cells (get_or (cells bs) o 0) empty_cell).now ≡ (get_or s.cells (get_or (cells bs) o 0) empty_cell).now) →
    has v bs ≡ has s bs
unfolding cells
has_by v s bs f = has_same v s (cells bs) f

by_first : (v : Fs) (e : ℕ) (y : Name) (j : ℕ) (js : List ℕ) → named v.tree e y ≡ j ∷ js → by_name v e y ≡ body_of v.tree j
unfolding first_of
by_first v e y j js h = rw h

-- a file is synced
not_turned : (l : Limits) (s : Fs) (i : ℕ) → l.calls_can 10 ≡ true → is_file (body_of s.tree i) ≡ true → turned l s (sync_file i) ≡ 0
unfolding call_number good_fields refusal_by
not_turned l s i c f = rw (c, f)

sync_done : (l : Limits) (s : Fs) (i : ℕ) → l.calls_can 10 ≡ true → is_file (body_of s.tree i) ≡ true →
    after l s (sync_file i) ≡ with_cells (kept_all (cells (body_of s.tree i)) s.cells) s
unfolding changed
sync_done l s i c f = done_since l s (sync_file i) (not_turned l s i c f)

file_empty : (bs : List Body) → is_file bs ≡ true → entries bs ≡ []
unfolding is_file entries
file_empty bs h = grind arith

-- what each file has, once both are synced
module _ (s : Fs) (i j : ℕ) where
  abbrev both : List Cell
  both = kept_all (cells (body_of s.tree j)) (kept_all (cells (body_of s.tree i)) s.cells)

  module _ (g : ℕ → ℕ) (v : Fs) (c : v.cells ≡ chosen g 0 both) where
    was : (k : ℕ) → (get_or both k empty_cell).maybe ≡ [] → (get_or v.cells k empty_cell).now ≡ (get_or s.cells k empty_cell).now
    was k h = rw c (chosen_kept g 0 both k h ∙ (now_all _ _ k ∙ now_all _ s.cells k))

    has_i : has v (body_of s.tree i) ≡ has s (body_of s.tree i)
    has_i = has_by v s _ (λ o h. was _ (all_stay _ _ _ (all_here _ s.cells o h)))

    has_j : has v (body_of s.tree j) ≡ has s (body_of s.tree j)
    has_j = has_by v s _ (λ o h. was _ (all_here _ _ o h))

abbrev OneOrOther : Fs → ℕ → ℕ → Name → Name → ℕ → (ℕ → ℕ) → Fs → Type 0
OneOrOther s d e x y n g w =
    (has (lost n g w) (by_name (lost n g w) e y) ≡ has s (by_name s e y)) ⊎
    (has (lost n g w) (by_name (lost n g w) e y) ≡ has s (by_name s d x))

module _ (s : Fs) (i j d e : ℕ) (x y : Name) (g : ℕ → ℕ) (p : named s.tree d x ≡ i ∷ []) (q : named s.tree e y ≡ j ∷ []) where
  the_old : (v : Fs) → v.cells ≡ chosen g 0 (both s i j) → v.tree ≡ s.tree → has v (by_name v e y) ≡ has s (by_name s e y)
  the_old v c t =
      let a : by_name v e y ≡ body_of s.tree j = by_first v e y j [] (rw t q) ∙ rw t in
      ap (has v) a ∙ (has_j s i j g v c ∙ ap (has s) (sym (by_first s e y j [] q)))

  the_new : Well s.tree → is_file (body_of s.tree i) ≡ true → is_file (body_of s.tree j) ≡ true → (i ≡ j → ⊥) →
      (v : Fs) → v.cells ≡ chosen g 0 (both s i j) → v.tree ≡ put_entry e y i (drop_entry d x (removed e y j s.tree)) →
      has v (by_name v e y) ≡ has s (by_name s d x)
  the_new w fi fj ne v c t =
      let a : by_name v e y ≡ body_of s.tree i = by_first v e y i []
      (rw t (named_over s.tree i j d e x y [] [] w p q ne (file_empty _ fj)))
      ∙ rw t (body_over s.tree i j d e x y [] [] w p q ne (file_empty _ fj) (file_empty _ fi)) in
      ap (has v) a ∙ (has_i s i j g v c ∙ ap (has s) (sym (by_first s d x i [] p)))

-- the file system after all three calls
abbrev swapped : Fs → ℕ → ℕ → ℕ → ℕ → Name → Name → Fs
swapped s i j d e x y = push (put_entry e y i (drop_entry d x (removed e y j s.tree))) (with_cells (both s i j) s)

abbrev then : Fs → ℕ → ℕ → ℕ → ℕ → Name → Name → Fs
then s i j d e x y = cond (eqb i j) (with_cells (both s i j) s) (swapped s i j d e x y)

all_done : (l : Limits) (s : Fs) (i j d e : ℕ) (x y : Name) → l.calls_can 10 ≡ true → named s.tree d x ≡ i ∷ [] →
    named s.tree e y ≡ j ∷ [] →
    is_file (body_of s.tree i) ≡ true → is_file (body_of s.tree j) ≡ true → turned l s (rename d x e y) ≡ 0 →
    after l (after l (after l s (sync_file i)) (sync_file j)) (rename d x e y) ≡ then s i j d e x y
all_done l s i j d e x y c p q fi fj h =
    let one : after l s (sync_file i) ≡ with_cells (kept_all (cells (body_of s.tree i)) s.cells) s = sync_done l s i c fi in
    let two : after l (after l s (sync_file i)) (sync_file j) ≡ with_cells (both s i j) s =
    ap (λ u. after l u (sync_file j)) one ∙ sync_done l (with_cells (kept_all (cells (body_of s.tree i)) s.cells) s) j c fj in
    ap (λ u. after l u (rename d x e y)) two
    ∙ (done_since l (with_cells (both s i j) s) (rename d x e y) h ∙ renamed (with_cells (both s i j) s) i j d e x y [] [] p q)

pub copied_whole : CopiedWhole
unfolding CopiedWhole
copied_whole l hs s i j d e x y n g good r alone p q fi fj h =
    subst (OneOrOther s d e x y n g) (sym (all_done l s i j d e x y (good.5 10) p q fi fj h))
    (cond_both (eqb i j) _ _ (OneOrOther s d e x y n g)
    (λ _. inl (the_old s i j d e x y g p q (lost n g (with_cells (both s i j) s)) refl (rw alone (nth_one s.tree n))))
    (λ ne. other n (the_new s i j d e x y g p q (well l hs s r) fi fj (eqb-false i j ne))))
  where
    other : (n : ℕ) → ((v : Fs) → v.cells ≡ chosen g 0 (both s i j) →
        v.tree ≡ put_entry e y i (drop_entry d x (removed e y j s.tree)) → has v (by_name v e y) ≡ has s (by_name s d x)) →
        OneOrOther s d e x y n g (swapped s i j d e x y)
    other zero new = inr (new (lost 0 g (swapped s i j d e x y)) refl refl)
    other (suc zero) new = inl (the_old s i j d e x y g p q (lost 1 g (swapped s i j d e x y)) refl refl)
    other (suc (suc n)) new = inr (new (lost (suc (suc n)) g (swapped s i j d e x y)) refl (rw alone))
