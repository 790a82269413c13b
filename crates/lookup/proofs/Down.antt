-- Going down a tree step by step: at first all entries of a node are left, then one fewer, until there are none or no steps.
use Rattle.std.proofs.Common.{◌≡◌, ℕ, zero, suc, ◌+◌, ◌-◌, ◌<◌, ◌≤◌, true, false, ◌||◌, eqb, List, [], ◌∷◌, length, get_or, drop, sym, refl, ap, ◌∙◌, arith}
use mathlib.Core.Bool.{false≢true}
use Rattle.std.proofs.lemmas.Bool.{eq-eqb, ne_eqb}
use Rattle.std.proofs.lemmas.List.{drop_more, drop_all}
use Rattle.model.specs.Tree.{Entry, Body, dir, file, Tree, body_of, entries, is_dir, holds, any_holds}
use Rattle.model.specs.Fs.{no_entry}

any_step : (k : ℕ) (t : Tree) (e : Entry) (es : List Entry) (j : ℕ) →
    any_holds (suc k) t (e ∷ es) j ≡ (holds k t e.id j || any_holds k t es j)
unfolding any_holds
any_step k t e es j = refl

any_none : (k : ℕ) (t : Tree) (j : ℕ) → any_holds k t [] j ≡ false
unfolding any_holds
any_none zero t j = refl
any_none (suc k) t j = refl

any_zero : (t : Tree) (es : List Entry) (j : ℕ) → any_holds 0 t es j ≡ false
unfolding any_holds
any_zero t es j = refl

holds_zero : (t : Tree) (i j : ℕ) → holds 0 t i j ≡ eqb i j
unfolding holds
holds_zero t i j = refl

holds_step : (k : ℕ) (t : Tree) (i j : ℕ) → holds (suc k) t i j ≡ (eqb i j || any_holds k t (entries (body_of t i)) j)
unfolding holds
holds_step k t i j = refl

-- at first
pub holds_itself : (steps : ℕ) (t : Tree) (i j : ℕ) → i ≡ j → true ≡ holds steps t i j
holds_itself zero t i j e = sym (holds_zero t i j ∙ eq-eqb i j e)
holds_itself (suc k) t i j e =
    sym (holds_step k t i j ∙ ap (λ b. b || any_holds k t (entries (body_of t i)) j) (eq-eqb i j e))

pub holds_start : (steps : ℕ) (t : Tree) (i j : ℕ) → (i ≡ j → ⊥) → any_holds (steps - 1) t (entries (body_of t i)) j ≡ holds steps t i j
holds_start zero t i j ne =
    any_zero t (entries (body_of t i)) j ∙ sym (holds_zero t i j ∙ ne_eqb i j ne)
holds_start (suc k) t i j ne =
    let z : suc k - 1 ≡ k = omega arith in
    ap (λ n. any_holds n t (entries (body_of t i)) j) z
    ∙ sym (holds_step k t i j ∙ ap (λ b. b || any_holds k t (entries (body_of t i)) j) (ne_eqb i j ne))

-- nothing is in what has no entries
pub holds_none : (steps : ℕ) (t : Tree) (i j : ℕ) → (i ≡ j → ⊥) → entries (body_of t i) ≡ [] → false ≡ holds steps t i j
holds_none steps t i j ne e =
    sym (any_none (steps - 1) t j) ∙ (ap (λ es. any_holds (steps - 1) t es j) (sym e) ∙ holds_start steps t i j ne)

-- then
module _ (t : Tree) (es : List Entry) (k j : ℕ) where
  any_more : (f g : ℕ) → f ≡ suc g → k < length es →
      any_holds f t (drop k es) j ≡ (holds g t (get_or es k no_entry).id j || any_holds g t (drop (k + 1) es) j)
  any_more f g e lt =
      ap (λ n. any_holds n t (drop k es) j) e
      ∙ (ap (λ xs. any_holds (suc g) t xs j) (drop_more es k no_entry lt) ∙ any_step g t (get_or es k no_entry) (drop (k + 1) es) j)

  -- the next entry holds it, or it does not and those after it are left
  pub any_here : (f g i : ℕ) → f ≡ suc g → k < length es → i ≡ (get_or es k no_entry).id → true ≡ holds g t i j →
      true ≡ any_holds f t (drop k es) j
  any_here f g i e lt id here =
      let h : holds g t (get_or es k no_entry).id j ≡ true = ap (λ n. holds g t n j) (sym id) ∙ sym here in
      sym (any_more f g e lt ∙ ap (λ b. b || any_holds g t (drop (k + 1) es) j) h)

  pub any_next : (f g rest i : ℕ) → f ≡ suc g → rest ≡ g → k < length es → i ≡ (get_or es k no_entry).id → false ≡ holds g t i j →
      any_holds rest t (drop (k + 1) es) j ≡ any_holds f t (drop k es) j
  any_next f g rest i e z lt id none =
      let h : holds g t (get_or es k no_entry).id j ≡ false = ap (λ n. holds g t n j) (sym id) ∙ sym none in
      ap (λ n. any_holds n t (drop (k + 1) es) j) z
      ∙ sym (any_more f g e lt ∙ ap (λ b. b || any_holds g t (drop (k + 1) es) j) h)

  pub any_stop : (f : ℕ) → f ≡ 0 → any_holds f t (drop k es) j ≡ false
  any_stop f e = ap (λ n. any_holds n t (drop k es) j) e ∙ any_zero t (drop k es) j

  pub any_end : (f : ℕ) → length es ≤ k → any_holds f t (drop k es) j ≡ false
  any_end f le = ap (λ xs. any_holds f t xs j) (drop_all k es le) ∙ any_none f t j

-- what is no directory has no entries
pub no_entries : (bs : List Body) → is_dir bs ≡ false → entries bs ≡ []
unfolding is_dir entries
no_entries [] e = refl
no_entries (dir es ∷ bs) e = absurd (false≢true (sym e))
no_entries (file cs ∷ bs) e = refl
