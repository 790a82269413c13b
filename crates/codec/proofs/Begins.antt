-- Which bytes some call's bytes begin with, and which front of bytes is the longest that does. Some call begins so if bytes
-- can follow with which a call is read; none does if whatever follows is garbled.
use Rattle.std.proofs.Common.{◌≡◌, ℕ, suc, ◌+◌, ◌-◌, ◌<◌, ◌≤◌, true, List, [], ◌∷◌, ◌++◌, length, take, drop, replicate, sym, refl, ap, ◌∙◌, subst, arith}
use Rattle.std.proofs.lemmas.List.{append_assoc, length-append, length-replicate, take_all, take-take, take-append-drop}
use Rattle.model.specs.Calls.{garbled, call_number, bytes}
use Rattle.model_facts.proofs.Zeros.{bytes_zeros}
use Rattle.codec.specs.CallBytes.{numbers_end, made, read_call}
use Rattle.codec.specs.Promises.{is_call, BeginsCall, LongestFront}
use Rattle.codec.proofs.Bytes.{bytes_nil, bytes_cons, bytes-append}
use Rattle.codec.proofs.Kind.{Kind, a_find, a_make_file, a_make_dir, a_remove, a_rename, a_list, a_size, a_read}
use Rattle.codec.proofs.Kind.{a_write, a_resize, a_sync_file, a_sync_tree, kind}
use Rattle.codec.proofs.CallRead.{of_kind, read_closed}
use Rattle.codec.proofs.Carried.{garbled_no_call}
use Rattle.codec.proofs.Only.{only_calls}

pub begins : (xs more : List ℕ) → bytes (xs ++ more) ≡ true → is_call (read_call (xs ++ more)) ≡ true → BeginsCall xs
begins xs more y c = (read_call (xs ++ more), (more, only_calls (xs ++ more) y c))

-- THE LONGEST FRONT: one byte more, and whatever follows is garbled
abbrev Ends : List ℕ → ℕ → Type 0
Ends bs n = (rest : List ℕ) → read_call (take (n + 1) bs ++ rest) ≡ garbled n

pub longest : (bs : List ℕ) (n : ℕ) → n ≤ length bs → BeginsCall (take n bs) → Ends bs n → LongestFront bs n
longest bs n l b f = (l, b, none)
  where
    none : (m : ℕ) → n < m → m ≤ length bs → BeginsCall (take m bs) → ⊥
    none m lt _ (c, (rest, w)) =
        let up : n + 1 ≤ m = omega arith in
        let more : List ℕ = drop (n + 1) (take m bs) in
        let e : take m bs ≡ take (n + 1) bs ++ more =
        sym (take-append-drop (n + 1) (take m bs)) ∙ ap (λ xs. xs ++ more) (take-take (n + 1) m bs up) in
        let g : read_call (take m bs ++ rest) ≡ garbled n =
        ap (λ xs. read_call (xs ++ rest)) e ∙ ap read_call (append_assoc (take (n + 1) bs) more rest) ∙ f (more ++ rest) in
        garbled_no_call (take m bs ++ rest) n g c w

-- where all of the bytes begin a call there is no longer front
pub longest_all : (bs : List ℕ) (n : ℕ) → n ≡ length bs → BeginsCall bs → LongestFront bs n
longest_all bs n e b =
    let le : length bs ≤ n = omega arith in
    (omega arith, subst BeginsCall (sym (take_all n bs le)) b, λ m l h _. omega arith)

-- NO BYTES begin a call
pub begins_none : BeginsCall []
unfolding call_number made
begins_none = begins [] (11 ∷ []) (bytes_cons 11 [] (omega arith) bytes_nil) (ap is_call (read_closed 11 [] (omega arith) refl))

-- A CALL'S NUMBERS. All but a rename are calls by their numbers alone
kind_call : (k : ℕ) (b : List ℕ) → Kind k → (k ≡ 4 → ⊥) → is_call (of_kind k b) ≡ true
unfolding made call_number
kind_call _ b a_find ne = refl
kind_call _ b a_make_file ne = refl
kind_call _ b a_make_dir ne = refl
kind_call _ b a_remove ne = refl
kind_call _ b a_rename ne = absurd (ne refl)
kind_call _ b a_list ne = refl
kind_call _ b a_size ne = refl
kind_call _ b a_read ne = refl
kind_call _ b a_write ne = refl
kind_call _ b a_resize ne = refl
kind_call _ b a_sync_file ne = refl
kind_call _ b a_sync_tree ne = refl

pub is_of_kind : (k : ℕ) (b : List ℕ) → k ≤ 11 → (k ≡ 4 → ⊥) → is_call (of_kind k b) ≡ true
is_of_kind k b h ne = kind_call k b (kind k h) ne

-- just the numbers of a call
pub numbers-call :
    (k : ℕ) (b : List ℕ) → k ≤ 11 → (k ≡ 4 → ⊥) → numbers_end k ≡ suc (length b) → is_call (read_call (k ∷ b)) ≡ true
numbers-call k b h ne e = ap is_call (read_closed k b h e) ∙ is_of_kind k b h ne

-- too few bytes for its numbers: zeros can follow
pub short-begins :
    (k : ℕ) (b : List ℕ) → k ≤ 11 → (k ≡ 4 → ⊥) → bytes (k ∷ b) ≡ true → suc (length b) < numbers_end k → BeginsCall (k ∷ b)
short-begins k b h ne y s =
    let z : List ℕ = replicate (numbers_end k - suc (length b)) 0 in
    let lz : length z ≡ numbers_end k - suc (length b) = length-replicate (numbers_end k - suc (length b)) 0 in
    let lb : length (b ++ z) ≡ length b + length z = length-append b z in
    begins (k ∷ b) z (bytes-append (k ∷ b) z y (bytes_zeros _)) (numbers-call k (b ++ z) h ne (omega arith))
