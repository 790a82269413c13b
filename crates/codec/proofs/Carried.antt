-- Each call is read back from its bytes. So garbled bytes are no call's, and two different calls have different bytes.
use Rattle.std.proofs.Common.{◌≡◌, ℕ, ◌+◌, ◌<◌, ◌≤◌, Bool, true, false, cond, not, ◌&&◌, eqb, List, [], ◌++◌, length, take, drop, sym, refl, ap, ◌∙◌, arith}
use Rattle.std.proofs.lemmas.List.{length-append, drop-drop, take_at, drop_at}
use Rattle.std.proofs.lemmas.Bool.{and_parts, false≢true}
use Rattle.model.specs.Calls.{Call, find, make_file, make_dir, remove, rename, list, size, read, write}
use Rattle.model.specs.Calls.{resize, sync_file, sync_tree, garbled, call_number, bytes, eight, readable}
use Rattle.model.specs.Promise.{Carried}
use Rattle.codec.specs.Numbers.{le8}
use Rattle.codec.specs.Lengths.{digits, high, value}
use Rattle.codec.specs.CallBytes.{read_rename, made, read_call}
use Rattle.codec.specs.Promises.{is_call, BytesOf, CallsCarried, GarbledIsNoCall, CallsToldApart}
use Rattle.codec.proofs.Numbers.{from_le8_back, second_back}
use Rattle.codec.proofs.Digits.{high_digits, value_digits, none-too-many}
use Rattle.codec.proofs.Lead.{lead, lead_is}
use Rattle.codec.proofs.CallRead.{read-open, read_closed}
use Rattle.codec.proofs.RenameRead.{names-whole}

-- a name after its length, and what follows it
rename-back :
    (d e : ℕ) (n m : List ℕ) →
    let t : List ℕ = digits (length n) ++ (n ++ m) in read_rename d e (high t) t ≡ rename d n e m
rename-back d e n m =
    let ds : List ℕ = digits (length n) in
    let t : List ℕ = ds ++ (n ++ m) in
    let le : length n ≤ length n = omega arith in
    let h : high t + 1 ≡ length ds = high_digits (length n) (length n) (n ++ m) le in
    let k : lead t ≡ ds = sym (lead_is t) ∙ ap (λ i. take i t) h ∙ take_at ds (n ++ m) _ refl in
    let v : value (lead t) ≡ length n = ap value k ∙ value_digits (length n) (length n) le in
    let lt : length t ≡ length ds + (length n + length m) =
    length-append ds (n ++ m) ∙ ap (λ i. length ds + i) (length-append n m) in
    let r : drop (high t + 1) t ≡ n ++ m = ap (λ i. drop i t) h ∙ drop_at ds (n ++ m) _ refl in
    let s : drop (high t + 1 + value (lead t)) t ≡ m =
    sym (drop-drop (value (lead t)) (high t + 1) t) ∙ ap (λ xs. drop (value (lead t)) xs) r ∙ drop_at n m _ (sym v) in
    let q : take (value (lead t)) (drop (high t + 1) t) ≡ n =
    ap (λ xs. take (value (lead t)) xs) r ∙ take_at n m _ (sym v) in
    names-whole d e t (omega arith) (none-too-many (length n) (n ++ m)) (omega arith)
    ∙ ap (λ xs. rename d xs e (drop (high t + 1 + value (lead t)) t)) q
    ∙ ap (λ xs. rename d n e xs) s

two : {A : Type 0} (f : ℕ → ℕ → A) {a b x y : ℕ} → a ≡ x → b ≡ y → f a b ≡ f x y
two f p q = rw (p, q)

pub carried : CallsCarried
unfolding Carried readable made call_number
carried (find d n) r _ =
    read-open 0 (le8 d ++ n) (omega arith) (omega arith) refl ∙ ap (λ x. find x n) (from_le8_back d n (and_parts _ _ r).0)
carried (make_file d n) r _ =
    read-open 1 (le8 d ++ n) (omega arith) (omega arith) refl ∙ ap (λ x. make_file x n) (from_le8_back d n (and_parts _ _ r).0)
carried (make_dir d n) r _ =
    read-open 2 (le8 d ++ n) (omega arith) (omega arith) refl ∙ ap (λ x. make_dir x n) (from_le8_back d n (and_parts _ _ r).0)
carried (remove d n) r _ =
    read-open 3 (le8 d ++ n) (omega arith) (omega arith) refl ∙ ap (λ x. remove x n) (from_le8_back d n (and_parts _ _ r).0)
carried (rename d n e m) r _ =
    let p = and_parts (eight d && bytes n) (eight e && bytes m) r in
    let dd = (and_parts (eight d) (bytes n) p.0).0 in
    let ee = (and_parts (eight e) (bytes m) p.1).0 in
    let t : List ℕ = digits (length n) ++ (n ++ m) in
    read-open 4 (le8 d ++ (le8 e ++ t)) (omega arith) (omega arith) refl
    ∙ two (λ x y. read_rename x y (high t) t) (from_le8_back d (le8 e ++ t) dd) (second_back d e t ee)
    ∙ rename-back d e n m
carried (list d k) r _ =
    let p = and_parts (eight d) (eight k) r in
    read_closed 5 (le8 d ++ le8 k) (omega arith) refl
    ∙ two list (from_le8_back d (le8 k) p.0) (second_back d k [] p.1)
carried (size i) r _ = read_closed 6 (le8 i) (omega arith) refl ∙ ap size (from_le8_back i [] r)
carried (read i o) r _ =
    let p = and_parts (eight i) (eight o) r in
    read_closed 7 (le8 i ++ le8 o) (omega arith) refl
    ∙ two read (from_le8_back i (le8 o) p.0) (second_back i o [] p.1)
carried (write i o b) r _ =
    let q = and_parts (eight i && eight o) (bytes b) r in
    let p = and_parts (eight i) (eight o) q.0 in
    read-open 8 (le8 i ++ (le8 o ++ b)) (omega arith) (omega arith) refl
    ∙ two (λ x y. write x y b) (from_le8_back i (le8 o ++ b) p.0) (second_back i o b p.1)
carried (resize i n) r _ =
    let p = and_parts (eight i) (eight n) r in
    read_closed 9 (le8 i ++ le8 n) (omega arith) refl
    ∙ two resize (from_le8_back i (le8 n) p.0) (second_back i n [] p.1)
carried (sync_file i) r _ = read_closed 10 (le8 i) (omega arith) refl ∙ ap sync_file (from_le8_back i [] r)
carried sync_tree r _ = read_closed 11 [] (omega arith) refl
carried (garbled n) r p = absurd (omega arith)

-- garbled is no call
pub no_call : (c : Call) (n : ℕ) → c ≡ garbled n → is_call c ≡ true → ⊥
unfolding call_number
no_call c n e h = false≢true (sym (ap is_call e) ∙ h)

-- the same, of a call and its bytes
called : (c : Call) → is_call c ≡ true → 0 < cond (eqb (call_number c) 255) 0 1
called c h = go (eqb (call_number c) 255) h
  where
    go : (b : Bool) → not b ≡ true → 0 < cond b 0 1
    go true h = absurd (false≢true h)
    go false h = omega arith

back : (c : Call) (bs : List ℕ) → BytesOf c bs → read_call bs ≡ c
unfolding Carried
back c bs w = sym (ap read_call w.2) ∙ carried c w.0 (called c w.1)

pub garbled_no_call : GarbledIsNoCall
garbled_no_call bs n g c w = no_call c n (sym (back c bs w) ∙ g) w.1

pub told_apart : CallsToldApart
told_apart c d bs v w = sym (back c bs v) ∙ back d bs w
