-- The journal's words: what is written of an item is read back, whatever follows it; they are words; and how many changes
-- at least have a place.
use Rattle.std.proofs.Common.{◌≡◌, ℕ, zero, suc, ◌+◌, ◌-◌, ◌*◌, ◌^◌, ◌<◌, ◌≤◌, Bool, true, false, ◌&&◌, eqb, ltb, List, [], ◌∷◌, ◌++◌, length, get_or, take, drop, Some, Option, sym, refl, ap, ◌∙◌, ap₂, append_assoc, arith, length-append, get_or-drop, drop-drop, take_at, drop_at}
use Rattle.std.specs.List.{flat_map}
use Rattle.std.proofs.lemmas.Bool.{ltb-true, le-ltb, le-leb, ne_eqb, and_parts, false≢true}
use Rattle.blocks.specs.Words.{bytes_of, chunks, zeros_after}
use Rattle.blocks.proofs.Words.{Small, small-append, small_chunks, length-chunks, chunks_zeros, name_back}
use Rattle.model.specs.Tree.{Name}
use Rattle.model.specs.Calls.{Call, find, make_file, make_dir, remove, rename, list, size, read, write, resize, sync_file, sync_tree}
use Rattle.model.specs.Calls.{garbled, call_number}
use Rattle.machine.specs.State.{Item}
use Rattle.machine.specs.Journal.{bit_word, name_size, name_words, field_words, item_words, journal_words, name_from, named_item}
use Rattle.machine.specs.Journal.{rename_to, rename_item, item_from, item_then, items_from, journal_from}
use Rattle.machine.specs.Fits.{ok_name, ok_call, ok_journal}
use Rattle.machine.proofs.Tables.{Short, short_name}

pub length-name : (n : Name) → length (name_words n) ≡ 1 + name_size (length n)
length-name n = let l = length-chunks (name_size (length n)) 0 n in omega arith

name_read : (n r : List ℕ) → Short n → name_from (name_words n ++ r) ≡ Some (n, 1 + name_size (length n))
name_read n r s =
    let k : ℕ = name_size (length n) in
    let C : List ℕ = chunks k 0 n in
    let lc : length C ≡ k = length-chunks k 0 n in
    let t : take k (C ++ r) ≡ C = take_at C r k lc in
    let p = s.some in
    let q = s.short in
    let a : eqb (length n) 0 ≡ false = ne_eqb (length n) 0 (λ e. omega arith) in
    let b : ltb 64 (length n) ≡ false = le-ltb 64 (length n) q in
    let la = length-append C r in
    let c : ltb (suc (length (C ++ r))) (1 + k) ≡ false = le-ltb (suc (length (C ++ r))) (1 + k) (omega arith) in
    let z0 : length n - 0 ≡ length n = omega arith in
    let z : zeros_after (length n) C ≡ true = ap (λ x. zeros_after x C) (sym z0) ∙ chunks_zeros k 0 n s.all_bytes in
    let w : take (length n) (flat_map (bytes_of 8) C) ≡ n = name_back k n s.all_bytes (omega arith) in
    rw (a, b, c, t, z, w)

one_name : (d : ℕ) (n : Name) → (ltb d 4294967296 && ok_name n) ≡ true → (d < 4294967296) × Short n
one_name d n h =
    let p = and_parts (ltb d 4294967296) (ok_name n) h in
    (ltb-true d 4294967296 p.0, short_name n p.1)

abbrev Read : Item → List ℕ → Type 0
Read i r = item_from (item_words i ++ r) ≡ Some (i, length (item_words i))

named_read : (c : Call) (b : Bool) (d : ℕ) (n r : List ℕ) → Short n →
    (named_item (call_number c) b d (Some (n, 1 + name_size (length n))) ≡ Some
    (record { first = b; call = c }, 3 + (1 + name_size (length n)))) →
    named_item (call_number c) b d (name_from (name_words n ++ r)) ≡ Some
    (record { first = b; call = c }, suc (suc (suc (length (name_words n)))))
named_read c b d n r s e =
    let l = length-name n in
    ap (named_item (call_number c) b d) (name_read n r s)
    ∙ (e ∙ ap {B = Option (Item × ℕ)} (λ k. Some (record { first = b; call = c }, k)) (omega arith))

rename_read : (b : Bool) (d : ℕ) (n : Name) (e : ℕ) (m : Name) (k f : ℕ) (r : List ℕ) → Short n → Short m →
    let ws : List ℕ = k ∷ f ∷ d ∷ ((name_words n ++ (e ∷ name_words m)) ++ r) in
    rename_item b d ws (name_from (drop 3 ws))
    ≡ Some (record { first = b; call = rename d n e m }, suc (suc (suc (length (name_words n ++ (e ∷ name_words m))))))
unfolding rename_item rename_to
rename_read b d n e m k f r sn sm =
    let A : List ℕ = name_words n in
    let M : List ℕ = name_words m ++ r in
    let B : List ℕ = e ∷ M in
    let ws : List ℕ = k ∷ f ∷ d ∷ ((A ++ (e ∷ name_words m)) ++ r) in
    let flat : (A ++ (e ∷ name_words m)) ++ r ≡ A ++ B = append_assoc A (e ∷ name_words m) r in
    let j : ℕ = 1 + name_size (length n) in
    let lj : length A ≡ j = length-name n in
    let d3 : drop j (drop 3 ws) ≡ drop (3 + j) ws = drop-drop j 3 ws in
    let at_b : drop (3 + j) ws ≡ B = sym d3 ∙ (ap (drop j) flat ∙ drop_at A B j lj) in
    let ge : get_or ws (3 + j) 0 ≡ e =
    ap (λ x. get_or ws x 0) (let q : 3 + j ≡ 3 + j + 0 = omega arith in q)
    ∙ (sym (get_or-drop (3 + j) ws 0 0) ∙ ap (λ x. get_or x 0 0) at_b) in
    let dm : drop (4 + j) ws ≡ M =
    ap (λ x. drop x ws) (let q : 4 + j ≡ 3 + j + 1 = omega arith in q) ∙ (sym (drop-drop 1 (3 + j) ws) ∙ ap (drop 1) at_b) in
    let rn : name_from (drop 3 ws) ≡ Some (n, j) = ap name_from flat ∙ name_read n B sn in
    let rm : name_from (drop (4 + j) ws) ≡ Some (m, 1 + name_size (length m)) = ap name_from dm ∙ name_read m r sm in
    let l1 = length-append A (e ∷ name_words m) in
    let l2 = length-name m in
    ap (rename_item b d ws) rn
    ∙ (ap₂ (λ x y. rename_to b d n x (3 + j) y) ge rm
    ∙ ap {B = Option (Item × ℕ)} (λ x. Some (record { first = b; call = rename d n e m }, x)) (omega arith))

by_call : (r : List ℕ) (b : Bool) (c : Call) → ok_call c ≡ true → Read (record { first = b; call = c }) r
unfolding ok_call call_number field_words named_item
by_call r b (find d n) h = absurd (false≢true h)
by_call r true (make_file d n) h = named_read (make_file d n) true d n r (one_name d n h).1 refl
by_call r false (make_file d n) h = named_read (make_file d n) false d n r (one_name d n h).1 refl
by_call r true (make_dir d n) h = named_read (make_dir d n) true d n r (one_name d n h).1 refl
by_call r false (make_dir d n) h = named_read (make_dir d n) false d n r (one_name d n h).1 refl
by_call r true (remove d n) h = named_read (remove d n) true d n r (one_name d n h).1 refl
by_call r false (remove d n) h = named_read (remove d n) false d n r (one_name d n h).1 refl
by_call r true (rename d n e m) h =
    let p = and_parts (ltb d 4294967296 && ok_name n) (ltb e 4294967296 && ok_name m) h in
    rename_read true d n e m 4 1 r (one_name d n p.0).1 (one_name e m p.1).1
by_call r false (rename d n e m) h =
    let p = and_parts (ltb d 4294967296 && ok_name n) (ltb e 4294967296 && ok_name m) h in
    rename_read false d n e m 4 0 r (one_name d n p.0).1 (one_name e m p.1).1
by_call r b (list d k) h = absurd (false≢true h)
by_call r b (size i) h = absurd (false≢true h)
by_call r b (read i o) h = absurd (false≢true h)
by_call r b (write i o x) h = absurd (false≢true h)
by_call r true (resize i n) h = rw (le-leb 4 (suc (suc (suc (suc (length r))))) (omega arith))
by_call r false (resize i n) h = rw (le-leb 4 (suc (suc (suc (suc (length r))))) (omega arith))
by_call r b (sync_file i) h = absurd (false≢true h)
by_call r b sync_tree h = absurd (false≢true h)
by_call r b (garbled n) h = absurd (false≢true h)

pub item_read : (i : Item) (r : List ℕ) → ok_call i.call ≡ true → Read i r
item_read i r h = by_call r i.first i.call h

no_items : (f : ℕ) → items_from f [] ≡ []
unfolding items_from item_then
no_items zero = refl
no_items (suc f) = refl

items_read : (js : List Item) (f : ℕ) → length (journal_words js) ≤ f → ok_journal js ≡ true → items_from f (journal_words js) ≡ js
unfolding items_from item_then ok_journal
items_read [] f l h = no_items f
items_read (i ∷ js) zero l h = absurd (omega arith)
items_read (i ∷ js) (suc f) l h =
    let p = and_parts (ok_call i.call) (ok_journal js) h in
    let la = length-append (item_words i) (journal_words js) in
    let e = item_read i (journal_words js) p.0 in
    let d : drop (length (item_words i)) (item_words i ++ journal_words js) ≡ journal_words js =
    drop_at (item_words i) (journal_words js) (length (item_words i)) refl in
    ap (λ x. item_then x (λ n. items_from f (drop n (item_words i ++ journal_words js)))) e
    ∙ (ap (λ x. i ∷ items_from f x) d ∙ ap (λ x. i ∷ x) (items_read js f (omega arith) p.1))

pub journal_read : (js : List Item) → ok_journal js ≡ true → journal_from (journal_words js) ≡ js
journal_read js h = items_read js (length (journal_words js)) (omega arith) h

-- words
small_name : (n : Name) → Short n → Small (name_words n)
small_name n s = let q = s.short in (omega arith, small_chunks (name_size (length n)) 0 n s.all_bytes)

small_fields : (c : Call) → ok_call c ≡ true → Small (field_words c)
unfolding ok_call field_words
small_fields (find d n) h = tt
small_fields (make_file d n) h = let p = one_name d n h in let q = p.0 in (omega arith, small_name n p.1)
small_fields (make_dir d n) h = let p = one_name d n h in let q = p.0 in (omega arith, small_name n p.1)
small_fields (remove d n) h = let p = one_name d n h in let q = p.0 in (omega arith, small_name n p.1)
small_fields (rename d n e m) h =
    let p = and_parts (ltb d 4294967296 && ok_name n) (ltb e 4294967296 && ok_name m) h in
    let a = one_name d n p.0 in
    let b = one_name e m p.1 in
    let a0 = a.0 in
    let b0 = b.0 in
    (omega arith, small-append (name_words n) (e ∷ name_words m) (small_name n a.1) (omega arith, small_name m b.1))
small_fields (list d k) h = tt
small_fields (size i) h = tt
small_fields (read i o) h = tt
small_fields (write i o b) h = tt
small_fields (resize i n) h =
    let p = and_parts (ltb i 4294967296) (ltb n 4294967296) h in
    let a = ltb-true i 4294967296 p.0 in
    let b = ltb-true n 4294967296 p.1 in
    (omega arith, (omega arith, tt))
small_fields (sync_file i) h = tt
small_fields sync_tree h = tt
small_fields (garbled n) h = tt

number_small : (c : Call) → call_number c < 2 ^ 64
unfolding call_number
number_small (find d n) = omega arith
number_small (make_file d n) = omega arith
number_small (make_dir d n) = omega arith
number_small (remove d n) = omega arith
number_small (rename d n e m) = omega arith
number_small (list d k) = omega arith
number_small (size i) = omega arith
number_small (read i o) = omega arith
number_small (write i o b) = omega arith
number_small (resize i n) = omega arith
number_small (sync_file i) = omega arith
number_small sync_tree = omega arith
number_small (garbled n) = omega arith

pub bit_small : (b : Bool) → bit_word b < 2 ^ 64
bit_small true = omega arith
bit_small false = omega arith

pub small_item : (b : Bool) (c : Call) → ok_call c ≡ true → Small (item_words (record { first = b; call = c }))
small_item b c h = (number_small c, (bit_small b, small_fields c h))

pub small_journal : (js : List Item) → ok_journal js ≡ true → Small (journal_words js)
unfolding ok_journal
small_journal [] h = tt
small_journal (i ∷ js) h =
    let p = and_parts (ok_call i.call) (ok_journal js) h in
    small-append (item_words i) (journal_words js) (small_item i.first i.call p.0) (small_journal js p.1)

-- an item has at most 22 words
fields_long : (c : Call) → ok_call c ≡ true → length (field_words c) ≤ 20
unfolding ok_call field_words
fields_long (find d n) h = omega arith
fields_long (make_file d n) h = let q = (one_name d n h).1.short in let l = length-name n in omega arith
fields_long (make_dir d n) h = let q = (one_name d n h).1.short in let l = length-name n in omega arith
fields_long (remove d n) h = let q = (one_name d n h).1.short in let l = length-name n in omega arith
fields_long (rename d n e m) h =
    let p = and_parts (ltb d 4294967296 && ok_name n) (ltb e 4294967296 && ok_name m) h in
    let q = (one_name d n p.0).1.short in
    let r = (one_name e m p.1).1.short in
    let l = length-name n in
    let k = length-name m in
    let a = length-append (name_words n) (e ∷ name_words m) in
    omega arith
fields_long (list d k) h = omega arith
fields_long (size i) h = omega arith
fields_long (read i o) h = omega arith
fields_long (write i o b) h = omega arith
fields_long (resize i n) h = omega arith
fields_long (sync_file i) h = omega arith
fields_long sync_tree h = omega arith
fields_long (garbled n) h = omega arith

pub journal_long : (js : List Item) → ok_journal js ≡ true → length (journal_words js) ≤ 22 * length js
unfolding ok_journal
journal_long [] h = omega arith
journal_long (i ∷ js) h =
    let p = and_parts (ok_call i.call) (ok_journal js) h in
    let a = length-append (item_words i) (journal_words js) in
    let b = fields_long i.call p.0 in
    let ih = journal_long js p.1 in
    omega arith
