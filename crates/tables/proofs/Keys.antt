-- Names and their keys: short names are the same where their keys are.
use Rattle.std.proofs.Common.{◌≡◌, ℕ, zero, suc, ◌<◌, Bool, true, false, cond, ltb, List, [], ◌∷◌, ◌++◌, length, get_or, take, drop, Decides, sym, refl, ap, ◌∙◌, ap₂, suc-le-suc, arith}
use Rattle.std.specs.List.{flat_map}
use Rattle.std.proofs.lemmas.Slice.Eq.{compares_Decides}
use Rattle.std.proofs.lemmas.Bool.Decides.{same_from_decides, Decides-like}
use Rattle.std.proofs.lemmas.Bool.{and_parts}
use Rattle.blocks.specs.Words.{bytes_of, chunks}
use Rattle.blocks.proofs.Words.{name_back}
use Rattle.model.specs.Tree.{Name, Entry, same, find_name, without_name}
use Rattle.model.specs.Fs.{no_entry}
use Rattle.machine.specs.Tables.{name_key}
use Rattle.machine.specs.Fits.{every, ok_name, ok_entry}
use Rattle.machine.proofs.Tables.{Short, short_name}
use Rattle.tables.specs.Stands.{EntryStands}

pub same_decides : (m n : List ℕ) → Decides (same m n) (m ≡ n)
unfolding same
same_decides m n =
    compares_Decides same (record { empty = refl; shorter = λ y ys. refl; longer = λ x xs. refl; heads = λ x y xs ys. refl }) m n

key_same : (m n : Name) → Short m → Short n → name_key m ≡ name_key n → m ≡ n
key_same m n sm sn e =
    let l : length m ≡ length n = ap (λ x. get_or x 0 0) e in
    let t : chunks 8 0 m ≡ chunks 8 0 n = ap (drop 1) e in
    sym (name_back 8 m sm.all_bytes sm.short)
    ∙ (ap₂ (λ x y. take x (flat_map (bytes_of 8) y)) l t ∙ name_back 8 n sn.all_bytes sn.short)

pub same_keys : (m n : Name) → ok_name m ≡ true → ok_name n ≡ true → same (name_key m) (name_key n) ≡ same m n
same_keys m n a b =
    same_from_decides (same (name_key m) (name_key n)) (same m n)
    (Decides-like (same (name_key m) (name_key n)) (key_same m n (short_name m a) (short_name n b)) (ap name_key)
    (same_decides (name_key m) (name_key n)))
    (same_decides m n)

-- each of some entries has a name that is a name
pub every_at : (next : ℕ) (es : List Entry) (k : ℕ) → every (ok_entry next) es ≡ true → k < length es →
    ok_name (get_or es k no_entry).name ≡ true
unfolding every
every_at next [] k h lt = absurd (omega arith)
every_at next (e ∷ es) zero h lt =
    (and_parts (ltb e.id next) (ok_name e.name) (and_parts (ok_entry next e) (every (ok_entry next) es) h).0).1
every_at next (e ∷ es) (suc k) h lt = every_at next es k (and_parts (ok_entry next e) (every (ok_entry next) es) h).1 (omega arith)

-- no entry has the name
pub none_named : (n : Name) (es : List Entry) → ((j : ℕ) → j < length es → same n (get_or es j no_entry).name ≡ false) →
    find_name n es ≡ []
unfolding find_name
none_named n [] f = refl
none_named n (e ∷ es) f = rw (f 0 (omega arith)) (none_named n es (λ j lt. f (suc j) (suc-le-suc lt)))

pub name_past : (n : Name) (xs ys : List Entry) → find_name n xs ≡ [] → find_name n (xs ++ ys) ≡ find_name n ys
unfolding find_name
name_past n [] ys e = refl
name_past n (x ∷ xs) ys e = go (same n x.name) (name_past n xs ys) e
  where
    go : (b : Bool) → (find_name n xs ≡ [] → find_name n (xs ++ ys) ≡ find_name n ys) →
        cond b (x.id ∷ []) (find_name n xs) ≡ [] → cond b (x.id ∷ []) (find_name n (xs ++ ys)) ≡ find_name n ys
    go true f h = let z : ◌≡◌ {A = ℕ} 0 1 = cc in absurd (omega arith)
    go false f h = f h

pub name_here : (n : Name) (e : Entry) (es : List Entry) → e.name ≡ n → find_name n (e ∷ es) ≡ e.id ∷ []
unfolding find_name
name_here n e es q = rw ((same_decides n e.name).1 (sym q))

left_past : (n : Name) (xs ys : List Entry) → find_name n xs ≡ [] → without_name n (xs ++ ys) ≡ xs ++ without_name n ys
unfolding find_name without_name
left_past n [] ys e = refl
left_past n (x ∷ xs) ys e = go (same n x.name) (left_past n xs ys) e
  where
    go : (b : Bool) → (find_name n xs ≡ [] → without_name n (xs ++ ys) ≡ xs ++ without_name n ys) →
        cond b (x.id ∷ []) (find_name n xs) ≡ [] → cond b (xs ++ ys) (x ∷ without_name n (xs ++ ys)) ≡ x ∷ (xs ++ without_name n ys)
    go true f h = let z : ◌≡◌ {A = ℕ} 0 1 = cc in absurd (omega arith)
    go false f h = ap (λ r. x ∷ r) (f h)

left_here : (n : Name) (e : Entry) (es : List Entry) → e.name ≡ n → without_name n (e ∷ es) ≡ es
unfolding without_name
left_here n e es q = rw ((same_decides n e.name).1 (sym q))

-- the entries without the one that has a name
pub entry_gone : (n : Name) (es : List Entry) (j : ℕ) (a : EntryStands n es j) → without_name n es ≡ a.pre ++ a.post
entry_gone n es j a =
    ap (without_name n) a.whole
    ∙ (left_past n a.pre (a.entry ∷ a.post) a.first ∙ ap (λ x. a.pre ++ x) (left_here n a.entry a.post a.named))
