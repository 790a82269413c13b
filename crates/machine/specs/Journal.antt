-- THE JOURNAL AS WORDS. An item is the number of its call; 1 where the tree was synced right before it, and else 0; the
-- call's numbers, a word each; and each name as its length and as many words as it needs. Definitions only.
use Rattle.std.specs.Prelude.{ℕ, zero, suc, ◌+◌, ◌/◌, Bool, cond, not, ◌&&◌, ◌||◌, List, [], ◌∷◌, ◌++◌, length, take, drop, Some, None, Option, ◌==◌, nat_eq, nat_le, nat_lt, slice_index, slice_index_or}
use Rattle.std.specs.List.{flat_map}
use Rattle.blocks.specs.Words.{bytes_of, chunks, zeros_after}
use Rattle.model.specs.Tree.{Name}
use Rattle.model.specs.Calls.{Call, find, make_file, make_dir, remove, rename, list, size, read, write, resize, sync_file, sync_tree}
use Rattle.model.specs.Calls.{garbled, call_number}
use Rattle.machine.specs.State.{Item}

abbrev pub bit_word : Bool → ℕ
bit_word b = cond b 1 0

-- how many words the bytes of a name take
abbrev pub name_size : ℕ → ℕ
name_size n = (n + 7) / 8

abbrev pub name_words : Name → List ℕ
name_words n = length n ∷ chunks (name_size (length n)) 0 n

-- what follows the first two words; only changing calls come into a journal
unfoldable pub field_words : Call → List ℕ
field_words (find d n) = []
field_words (make_file d n) = d ∷ name_words n
field_words (make_dir d n) = d ∷ name_words n
field_words (remove d n) = d ∷ name_words n
field_words (rename d n e m) = d ∷ (name_words n ++ (e ∷ name_words m))
field_words (list d k) = []
field_words (size i) = []
field_words (read i o) = []
field_words (write i o b) = []
field_words (resize i n) = i ∷ n ∷ []
field_words (sync_file i) = []
field_words sync_tree = []
field_words (garbled n) = []

abbrev pub item_words : Item → List ℕ
item_words i = call_number i.call ∷ bit_word i.first ∷ field_words i.call

abbrev pub journal_words : List Item → List ℕ
journal_words js = flat_map item_words js

-- READ BACK, with how many words were taken; nothing where the words are no item.
-- A name of 1 to 64 bytes, with zeros after it in its last word
abbrev pub name_from : List ℕ → Option (Name × ℕ)
name_from ws =
    let n : ℕ = slice_index_or ws 0 0 in
    let body : List ℕ = take (name_size n) (drop 1 ws) in
    cond ((n == 0 || nat_lt 64 n) || (nat_lt (length ws) (1 + name_size n) || not (zeros_after n body))) None
    (Some (take n (flat_map (bytes_of 8) body), 1 + name_size n))

-- a call with one name, by its number
abbrev pub named_call : ℕ → ℕ → Name → Call
named_call k d n = cond (k == 1) (make_file d n) (cond (k == 2) (make_dir d n) (remove d n))

unfoldable pub named_item : ℕ → Bool → ℕ → Option (Name × ℕ) → Option (Item × ℕ)
named_item k b d None = None
named_item k b d (Some x) = Some (record { first = b; call = named_call k d x.0 }, 3 + x.1)

unfoldable pub rename_to : Bool → ℕ → Name → ℕ → ℕ → Option (Name × ℕ) → Option (Item × ℕ)
rename_to b d n e at None = None
rename_to b d n e at (Some y) = Some (record { first = b; call = rename d n e y.0 }, at + 1 + y.1)

unfoldable pub rename_item : Bool → ℕ → List ℕ → Option (Name × ℕ) → Option (Item × ℕ)
rename_item b d ws None = None
rename_item b d ws (Some x) = rename_to b d x.0 (slice_index ws (3 + x.1)) (3 + x.1) (name_from (drop (4 + x.1) ws))

-- the item at the front of some words
abbrev pub item_from : List ℕ → Option (Item × ℕ)
item_from ws =
    let k : ℕ = slice_index_or ws 0 0 in
    let b : Bool = nat_eq (slice_index ws 1) 1 in
    let d : ℕ = slice_index_or ws 2 0 in
    cond (nat_lt 1 (slice_index ws 1)) None
    (cond (k == 1 || (k == 2 || k == 3)) (named_item k b d (name_from (drop 3 ws)))
    (cond (k == 4) (rename_item b d ws (name_from (drop 3 ws)))
    (cond (k == 9 && nat_le 4 (length ws)) (Some (record { first = b; call = resize d (slice_index ws 3) }, 4)) None)))

-- all items, one after another, for as long as there is one
unfoldable pub item_then : Option (Item × ℕ) → (ℕ → List Item) → List Item
item_then None rest = []
item_then (Some x) rest = x.0 ∷ rest x.1

unfoldable pub items_from : ℕ → List ℕ → List Item
items_from zero ws = []
items_from (suc f) ws = item_then (item_from ws) (λ n. items_from f (drop n ws))

abbrev pub journal_from : List ℕ → List Item
journal_from ws = items_from (length ws) ws
