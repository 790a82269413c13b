-- An item's words: how many they are, and that its parts, put one after another, are all of them.
use Rattle.std.proofs.Common.{◌≡◌, ℕ, zero, suc, ◌+◌, ◌-◌, ◌<◌, ◌≤◌, Bool, true, false, List, [], ◌∷◌, ◌++◌, length, get_or, take, drop, set, Some, refl, ap, append-nil, arith, length-append, take_at, drop_at}
use borrow.Rule.Slice.PartMut.{put_mid}
use mir.Val.{bool_byte}
use Rattle.std.proofs.lemmas.List.{drop_all}
use Rattle.blocks.specs.Words.{le, chunks}
use Rattle.model.specs.Calls.{Call, find, make_file, make_dir, remove, rename, list, size, read, write, resize, sync_file, sync_tree}
use Rattle.model.specs.Calls.{garbled}
use Rattle.model.specs.Calls.{call_number}
use Rattle.model.specs.Tree.{Name}
use Rattle.calls.specs.declared.Call.{Call as CodeCall}
use Rattle.calls.specs.declared.Call.TheVariants as code
use Rattle.calls.specs.declared.kind.Kind.{Kind}
use Rattle.calls.specs.Kinds.{kind_number, kind_of}
use Rattle.calls.specs.Meaning.{call_of}
use Rattle.machine.specs.Journal.{bit_word, name_size, name_words, field_words, item_words}
use Rattle.machine.specs.Tables.{name_key}
use Rattle.machine.proofs.JournalWords.{length-name}
use Rattle.tables.specs.Append.{item_added}
use Rattle.journal.specs.Changing.{item_size}

number_of : {j k : Kind} → Some j ≡ Some k → kind_number k ≡ kind_number j
number_of {j = j} {k = k} e = let f : k ≡ j = cc in ap kind_number f

-- HOW MANY
pub length_item : (b : Bool) (c : Call) → length (item_words (record { first = b; call = c })) ≡ item_size c
unfolding field_words
length_item b (find d n) = refl
length_item b (make_file d n) = let l = length-name n in omega arith
length_item b (make_dir d n) = let l = length-name n in omega arith
length_item b (remove d n) = let l = length-name n in omega arith
length_item b (rename d n e m) =
    let l = length-name n in
    let k = length-name m in
    let a = length-append (name_words n) (e ∷ name_words m) in
    omega arith
length_item b (list d k) = refl
length_item b (size i) = refl
length_item b (read i o) = refl
length_item b (write i o x) = refl
length_item b (resize i n) = refl
length_item b (sync_file i) = refl
length_item b sync_tree = refl
length_item b (garbled n) = refl

-- A NAME's words are the first of its key
chunks-take : (k m at : ℕ) (bs : List ℕ) → k ≤ m → take k (chunks m at bs) ≡ chunks k at bs
chunks-take zero m at bs l = refl
chunks-take (suc k) zero at bs l = absurd (omega arith)
chunks-take (suc k) (suc m) at bs l = ap (λ ws. le (take 8 (drop at bs)) ∷ ws) (chunks-take k m (at + 8) bs (omega arith))

pub key_front : (n : Name) (k : ℕ) → k ≡ 1 + name_size (length n) → length n ≤ 64 → take k (name_key n) ≡ name_words n
key_front n k e l =
    let s : k ≡ suc (name_size (length n)) = omega arith in
    rw s (ap (λ ws. length n ∷ ws) (chunks-take (name_size (length n)) 8 0 n (omega arith)))

-- PARTS, one after another. The last fills what is left after a front that is written
pub put_rest : (front rest new : List ℕ) (at k : ℕ) → length front ≡ at → length rest ≤ k →
    put_mid at k (front ++ rest) new ≡ front ++ new
put_rest front rest new at k lf lr =
    let a : take at (front ++ rest) ≡ front = take_at front rest at lf in
    let b : drop at (front ++ rest) ≡ rest = drop_at front rest at lf in
    let d : drop k rest ≡ [] = drop_all k rest lr in
    let e : new ++ [] ≡ new = append-nil new in
    cc

-- one word or two in front
pub set_one : (ws : List ℕ) (x : ℕ) → 0 < length ws → set ws 0 x ≡ (x ∷ []) ++ drop 1 ws
set_one [] x h = absurd (omega arith)
set_one (w ∷ ws) x h = refl

pub set_two : (ws : List ℕ) (x y : ℕ) → 1 < length ws → set (set ws 0 x) 1 y ≡ (x ∷ y ∷ []) ++ drop 2 ws
set_two [] x y h = absurd (omega arith)
set_two (v ∷ []) x y h = absurd (omega arith)
set_two (v ∷ w ∷ ws) x y h = refl

-- THE KIND is the first word
pub kind_word : (c : CodeCall) (k : Kind) → kind_of c ≡ Some k → kind_number k ≡ call_number (call_of c)
unfolding call_number
kind_word (code.Find d n) k e = number_of e
kind_word (code.MakeFile d n) k e = number_of e
kind_word (code.MakeDir d n) k e = number_of e
kind_word (code.Remove d n) k e = number_of e
kind_word (code.Rename d n g m) k e = number_of e
kind_word (code.List d j) k e = number_of e
kind_word (code.Size i) k e = number_of e
kind_word (code.Read i o) k e = number_of e
kind_word (code.Write i o x) k e = number_of e
kind_word (code.Resize i n) k e = number_of e
kind_word (code.SyncFile i) k e = number_of e
kind_word code.SyncTree k e = number_of e
kind_word (code.Garbled n) k e = absurd (cc)

-- THE FLAG as a word
pub flag_word : (b : Bool) → bool_byte b ≡ bit_word b
flag_word true = refl
flag_word false = refl

-- THE ITEM, where its words are counted
pub item_put : (ws new item : List ℕ) (n : ℕ) → n ≡ length item → new ≡ item →
    put_mid (16 + get_or ws 9 0) (16 + get_or ws 9 0 + n - (16 + get_or ws 9 0)) (set ws 9 (get_or ws 9 0 + n)) new ≡ item_added item ws
item_put ws new item n en e =
    let k : 16 + get_or ws 9 0 + n - (16 + get_or ws 9 0) ≡ length item = omega arith in
    rw (k, en, e)
