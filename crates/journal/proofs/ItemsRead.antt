-- Items read from words, by the places and names that are read: each equation of the definitions as the code meets it.
use Rattle.std.proofs.Common.{◌≡◌, ℕ, suc, ◌+◌, ◌-◌, ◌<◌, ◌≤◌, Bool, true, false, cond, ◌||◌, ◌&&◌, eqb, leb, List, [], ◌∷◌, length, get_or, drop, Some, None, Option, refl, sym, ap, ◌∙◌, arith, drop-drop}
use Rattle.std.proofs.lemmas.List.{drop_all, get_or-drop}
use Rattle.std.proofs.lemmas.Bool.{lt-leb}
use Rattle.std.proofs.lemmas.Bool.Decides.{nat_tests}
use Rattle.calls.specs.Kinds.{kind_number}
use Rattle.calls.specs.declared.kind.Kind.{Kind}
use Rattle.calls.specs.declared.kind.Kind.TheVariants as kinds
use Rattle.model.specs.Tree.{Name}
use Rattle.model.specs.Calls.{Call, rename, resize}
use Rattle.machine.specs.State.{Item}
use Rattle.machine.specs.Journal.{bit_word, name_from, named_call, named_item, rename_to, rename_item, item_from}
use Rattle.journal.specs.Items.{named_by}

abbrev Read : Type 0
Read = Option (Item × ℕ)

-- a flag passed: what is left says what is read
abbrev past_flag : ℕ → Bool → List ℕ → Read
past_flag k b fs =
    cond (eqb k 1 || (eqb k 2 || eqb k 3)) (named_item k b (get_or fs 0 0) (name_from (drop 1 fs)))
    (cond (eqb k 4) (rename_item b (get_or fs 0 0) (k ∷ bit_word b ∷ fs) (name_from (drop 1 fs)))
    (cond (eqb k 9 && leb 4 (length (k ∷ bit_word b ∷ fs))) (Some (record { first = b; call = resize (get_or fs 0 0) (get_or fs 1 0) }, 4))
    None))

flagged : (k : ℕ) (b : Bool) (fs : List ℕ) → item_from (k ∷ bit_word b ∷ fs) ≡ past_flag k b fs
flagged k true fs = refl
flagged k false fs = refl

-- A RENAME
pub rename_none : (b : Bool) (fs : List ℕ) → name_from (drop 1 fs) ≡ None → None ≡ item_from (4 ∷ bit_word b ∷ fs)
unfolding rename_item
rename_none b fs e = sym (flagged 4 b fs ∙ ap (rename_item b (get_or fs 0 0) (4 ∷ bit_word b ∷ fs)) e)

module _ (b : Bool) (fs : List ℕ) (d : ℕ) (n : Name) (k : ℕ) (dir : d ≡ get_or fs 0 0)
    (first : name_from (drop 1 fs) ≡ Some (n, k - 1)) (some : 3 ≤ k) where
  second : item_from (4 ∷ bit_word b ∷ fs) ≡ rename_to b d n (get_or (drop k fs) 0 0) (2 + k) (name_from (drop 1 (drop k fs)))
  unfolding rename_item
  second =
      let ws : List ℕ = 4 ∷ bit_word b ∷ fs in
      let at : 3 + (k - 1) ≡ suc (suc k) = omega arith in
      let past : 4 + (k - 1) ≡ suc (suc (k + 1)) = omega arith in
      let two : suc (suc k) ≡ 2 + k = omega arith in
      let z : k + 0 ≡ k = omega arith in
      let here : get_or fs k 0 ≡ get_or (drop k fs) 0 0 = ap (λ i. get_or fs i 0) (sym z) ∙ sym (get_or-drop k fs 0 0) in
      flagged 4 b fs
      ∙ (ap (rename_item b (get_or fs 0 0) ws) first
      ∙ (ap (λ i. rename_to b (get_or fs 0 0) n (get_or ws i 0) i (name_from (drop (4 + (k - 1)) ws))) at
      ∙ (ap (λ i. rename_to b (get_or fs 0 0) n (get_or fs k 0) (suc (suc k)) (name_from (drop i ws))) past
      ∙ rw (← dir, here, two, drop-drop 1 k fs) refl)))

  pub rename_half : name_from (drop 1 (drop k fs)) ≡ None → None ≡ item_from (4 ∷ bit_word b ∷ fs)
  unfolding rename_to
  rename_half e = sym (second ∙ ap (rename_to b d n (get_or (drop k fs) 0 0) (2 + k)) e)

  pub rename_both : (t : ℕ) (m : Name) (j : ℕ) → t ≡ get_or (drop k fs) 0 0 → name_from (drop 1 (drop k fs)) ≡ Some (m, j - 1) →
      3 ≤ j → Some (record { first = b; call = rename d n t m }, 2 + (k + j)) ≡ item_from (4 ∷ bit_word b ∷ fs)
  unfolding rename_to
  rename_both t m j et e l =
      let size : 2 + k + 1 + (j - 1) ≡ 2 + (k + j) = omega arith in
      sym (second ∙ (ap (rename_to b d n (get_or (drop k fs) 0 0) (2 + k)) e ∙ rw (← et, size) refl))

-- ONE NAME, of a kind that is neither a rename nor a resize
pub no_name : (kind : Kind) (b : Bool) (fs : List ℕ) → (kind ≡ kinds.Rename → ⊥) → (kind ≡ kinds.Resize → ⊥) →
    name_from (drop 1 fs) ≡ None → None ≡ item_from (kind_number kind ∷ bit_word b ∷ fs)
unfolding named_item
no_name kinds.Find b fs r s e = sym (flagged 0 b fs)
no_name kinds.MakeFile b fs r s e = sym (flagged 1 b fs ∙ ap (named_item 1 b (get_or fs 0 0)) e)
no_name kinds.MakeDir b fs r s e = sym (flagged 2 b fs ∙ ap (named_item 2 b (get_or fs 0 0)) e)
no_name kinds.Remove b fs r s e = sym (flagged 3 b fs ∙ ap (named_item 3 b (get_or fs 0 0)) e)
no_name kinds.Rename b fs r s e = absurd (r refl)
no_name kinds.List b fs r s e = sym (flagged 5 b fs)
no_name kinds.Size b fs r s e = sym (flagged 6 b fs)
no_name kinds.Read b fs r s e = sym (flagged 7 b fs)
no_name kinds.Write b fs r s e = sym (flagged 8 b fs)
no_name kinds.Resize b fs r s e = absurd (s refl)
no_name kinds.SyncFile b fs r s e = sym (flagged 10 b fs)
no_name kinds.SyncTree b fs r s e = sym (flagged 11 b fs)

module _ (b : Bool) (fs : List ℕ) (d : ℕ) (n : Name) (k : ℕ) (dir : d ≡ get_or fs 0 0)
    (name : name_from (drop 1 fs) ≡ Some (n, k - 1)) (some : 3 ≤ k) (c : Call) where
  one : (j : ℕ) → item_from (j ∷ bit_word b ∷ fs) ≡ named_item j b (get_or fs 0 0) (name_from (drop 1 fs)) →
      Some c ≡ Some (named_call j d n) → Some (record { first = b; call = c }, 2 + k) ≡ item_from (j ∷ bit_word b ∷ fs)
  unfolding named_item
  one j e ec =
      let is : named_call j d n ≡ c = cc in
      let size : 3 + (k - 1) ≡ 2 + k = omega arith in
      sym (e ∙ (ap (named_item j b (get_or fs 0 0)) name ∙ rw (← dir, is, size) refl))

  pub one_name : (kind : Kind) → Some c ≡ named_by (kind_number kind) d n →
      Some (record { first = b; call = c }, 2 + k) ≡ item_from (kind_number kind ∷ bit_word b ∷ fs)
  one_name kinds.Find e = absurd (cc)
  one_name kinds.MakeFile e = one 1 (flagged 1 b fs) e
  one_name kinds.MakeDir e = one 2 (flagged 2 b fs) e
  one_name kinds.Remove e = one 3 (flagged 3 b fs) e
  one_name kinds.Rename e = absurd (cc)
  one_name kinds.List e = absurd (cc)
  one_name kinds.Size e = absurd (cc)
  one_name kinds.Read e = absurd (cc)
  one_name kinds.Write e = absurd (cc)
  one_name kinds.Resize e = absurd (cc)
  one_name kinds.SyncFile e = absurd (cc)
  one_name kinds.SyncTree e = absurd (cc)

-- NO ITEM: too few words
none_there : (k : ℕ) (ws : List ℕ) → length ws ≤ k → name_from (drop k ws) ≡ None
none_there k ws l = let e : drop k ws ≡ [] = drop_all k ws l in rw e

pub item_cut : (ws : List ℕ) → length ws < 4 → None ≡ item_from ws
unfolding named_item rename_item
item_cut ws l =
    let e = none_there 3 ws (omega arith) in
    let f = lt-leb 4 (length ws) l in
    grind (arith, nat_tests)
