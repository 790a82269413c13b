-- The place of a garbled rename: digits that do not end, and a name that is too short, can go on; a zero too many cannot.
use Rattle.std.proofs.Common.{◌≡◌, ℕ, suc, ◌+◌, ◌-◌, ◌<◌, ◌≤◌, true, List, [], ◌∷◌, ◌++◌, length, get_or, take, drop, replicate, sym, refl, ap, ◌∙◌, subst, inl, inr, arith}
use Rattle.std.proofs.lemmas.List.{append_assoc, length-append, length-take-le, length-replicate, take-append-drop, take_all, take_at, drop_at, get_or_at, get_or_append_left, get_or-take}
use Rattle.model.specs.Calls.{garbled, call_number, bytes}
use Rattle.model_facts.proofs.Zeros.{bytes_zeros}
use Rattle.codec.specs.Numbers.{from_le8}
use Rattle.codec.specs.Lengths.{high, value}
use Rattle.codec.specs.CallBytes.{read_rename, made, read_call}
use Rattle.codec.specs.Promises.{is_call, BeginsCall, LongestFront}
use Rattle.codec.proofs.Bytes.{bytes_nil, bytes_cons, bytes-append, bytes_take, bytes_drop}
use Rattle.codec.proofs.Lead.{lead, lead_is, LastGood, high_le, high_lead, high_closed, high-append, lead-append}
use Rattle.codec.proofs.CallRead.{of_kind, read-open}
use Rattle.codec.proofs.RenameRead.{renamed, passed, Names, no_end, last_zero, short_name, whole}
use Rattle.codec.proofs.RenameRead.{names_of, names-whole, names-last-zero}
use Rattle.codec.proofs.Carried.{no_call}
use Rattle.codec.proofs.Begins.{begins, longest, longest_all}

-- with sixteen bytes after its number, a rename goes by what follows them
read-after :
    (p t : List ℕ) → length p ≡ 16 →
    read_call (4 ∷ p ++ t) ≡ read_rename (from_le8 (p ++ t)) (from_le8 (drop 8 (p ++ t))) (high t) t
unfolding made
read-after p t l =
    let a : length (p ++ t) ≡ length p + length t = length-append p t in
    read-open 4 (p ++ t) (omega arith) (omega arith) refl
    ∙ ap (λ s. read_rename (from_le8 (p ++ t)) (from_le8 (drop 8 (p ++ t))) (high s) s) (drop_at p t 16 l)

begins-after :
    (p t more : List ℕ) → length p ≡ 16 → bytes p ≡ true → bytes (t ++ more) ≡ true →
    ((d e : ℕ) → is_call (read_rename d e (high (t ++ more)) (t ++ more)) ≡ true) → BeginsCall (4 ∷ p ++ t)
begins-after p t more l y z f =
    let e : p ++ t ++ more ≡ p ++ (t ++ more) = append_assoc p t more in
    begins (4 ∷ p ++ t) more
    (subst (λ xs. bytes (4 ∷ xs) ≡ true) (sym e) (bytes_cons 4 _ (omega arith) (bytes-append p (t ++ more) y z)))
    (subst (λ xs. is_call (read_call (4 ∷ xs)) ≡ true) (sym e) (ap is_call (read-after p (t ++ more) l) ∙ f _ _))

whole-call :
    (d e : ℕ) (t : List ℕ) → high t < length t → LastGood t → high t + 1 + value (lead t) ≤ length t →
    is_call (read_rename d e (high t) t) ≡ true
unfolding call_number
whole-call d e t l g w = ap is_call (names-whole d e t l (passed t g) w)

-- DIGITS THAT DO NOT END: a last digit 1, and zeros for the name, make it whole
abbrev closed : List ℕ → List ℕ
closed t = take (high t) t ++ (1 ∷ [])

abbrev closing : List ℕ → List ℕ
closing t = 1 ∷ replicate (value (closed t)) 0

closed-call :
    (d e : ℕ) (t : List ℕ) → let s : List ℕ = take (high t) t ++ closing t in is_call (read_rename d e (high s) s) ≡ true
closed-call d e t =
    let f : List ℕ = take (high t) t in
    let v : ℕ = value (closed t) in
    let z : List ℕ = replicate v 0 in
    let s : List ℕ = f ++ (1 ∷ z) in
    let lz : length z ≡ v = length-replicate v 0 in
    let le : high t ≤ length t = high_le t in
    let lf : length f ≡ high t = length-take-le (high t) t le in
    let h : high s ≡ high t = high_closed t 1 z (omega arith) in
    let ls : length s ≡ length f + suc (length z) = length-append f (1 ∷ z) in
    let lc : length (closed t) ≡ length f + 1 = length-append f (1 ∷ []) in
    let ln : length (closed t) ≡ high s + 1 = omega arith in
    let again : closed t ++ z ≡ s = append_assoc f (1 ∷ []) z in
    let ld : lead s ≡ closed t =
    sym (lead_is s) ∙ ap (λ xs. take (high s + 1) xs) (sym again) ∙ take_at (closed t) z (high s + 1) ln in
    let vv : value (lead s) ≡ v = ap value ld in
    let one : get_or s (high s) 0 ≡ 1 = get_or_at f 1 z 0 (high s) (lf ∙ sym h) in
    whole-call d e s (omega arith) (inr (omega arith)) (omega arith)

closed-begins :
    (p t : List ℕ) → length p ≡ 16 → bytes p ≡ true → bytes t ≡ true → BeginsCall (4 ∷ p ++ take (high t) t)
closed-begins p t l y z =
    begins-after p (take (high t) t) (closing t) l y
    (bytes-append _ _ (bytes_take (high t) t z) (bytes_cons 1 _ (omega arith) (bytes_zeros _))) (λ d e. closed-call d e t)

-- A NAME THAT IS TOO SHORT: zeros make it long enough
longer : List ℕ → List ℕ
longer t = replicate (high t + 1 + value (lead t) - length t) 0

longer-call :
    (d e : ℕ) (t : List ℕ) → high t < length t → LastGood t → length t < high t + 1 + value (lead t) →
    is_call (read_rename d e (high (t ++ longer t)) (t ++ longer t)) ≡ true
unfolding longer
longer-call d e t l g w =
    let z : List ℕ = longer t in
    let k : ℕ = high t + 1 + value (lead t) - length t in
    let lz : length z ≡ k = length-replicate k 0 in
    let ls : length (t ++ z) ≡ length t + length z = length-append t z in
    let h : high (t ++ z) ≡ high t = high-append t z l in
    let vv : value (lead (t ++ z)) ≡ value (lead t) = ap value (lead-append t z l) in
    let dg : get_or (t ++ z) (high (t ++ z)) 0 ≡ get_or t (high t) 0 =
    ap (λ i. get_or (t ++ z) i 0) h ∙ get_or_append_left t z 0 (high t) l in
    whole-call d e (t ++ z) (omega arith) (good g h dg) (omega arith)
  where
    good :
        LastGood t → high (t ++ longer t) ≡ high t → get_or (t ++ longer t) (high (t ++ longer t)) 0 ≡ get_or t (high t) 0 →
        LastGood (t ++ longer t)
    good (inl e) h dg = inl (h ∙ e)
    good (inr p) h dg = inr (omega arith)

-- A ZERO TOO MANY: whatever follows it is garbled there
zero-ends :
    (d e : ℕ) (t rest : List ℕ) → high t < length t → 0 < high t → get_or t (high t) 0 ≡ 0 →
    let s : List ℕ = take (high t + 1) t ++ rest in read_rename d e (high s) s ≡ garbled (17 + high t)
zero-ends d e t rest l p z =
    let f : List ℕ = take (high t + 1) t in
    let s : List ℕ = f ++ rest in
    let h : high s ≡ high t = ap (λ xs. high (xs ++ rest)) (lead_is t) ∙ high_lead t rest l in
    let le : high t + 1 ≤ length t = omega arith in
    let lf : length f ≡ high t + 1 = length-take-le (high t + 1) t le in
    let ls : length s ≡ length f + length rest = length-append f rest in
    let lt : high t < length f = omega arith in
    let lt' : high t < high t + 1 = omega arith in
    let dg : get_or s (high t) 0 ≡ 0 =
    get_or_append_left f rest 0 (high t) lt ∙ get_or-take (high t + 1) t (high t) 0 lt' ∙ z in
    ap (λ i. read_rename d e i s) h ∙ names-last-zero d e (high t) s (omega arith) p dg

take_past : (p t : List ℕ) (n : ℕ) → take (length p + n) (p ++ t) ≡ p ++ take n t
take_past [] t n = let e : 0 + n ≡ n = omega arith in rw e
take_past (x ∷ p) t n =
    let e : suc (length p) + n ≡ suc (length p + n) = omega arith in rw e (ap (λ xs. x ∷ xs) (take_past p t n))

take_after : (p t : List ℕ) (n m : ℕ) → length p ≡ 16 → m ≡ 17 + n → take m (4 ∷ p ++ t) ≡ 4 ∷ p ++ take n t
take_after p t n m l e =
    let q : m ≡ suc (length p + n) = omega arith in rw q (ap (λ xs. 4 ∷ xs) (take_past p t n))

zero-longest :
    (p t : List ℕ) (n : ℕ) → length p ≡ 16 → bytes p ≡ true → bytes t ≡ true → high t < length t → 0 < high t →
    get_or t (high t) 0 ≡ 0 → n ≡ 17 + high t → LongestFront (4 ∷ p ++ t) n
zero-longest p t n l y z s h w m =
    let a : length (p ++ t) ≡ length p + length t = length-append p t in
    longest (4 ∷ p ++ t) n (omega arith)
    (subst BeginsCall (sym (take_after p t (high t) n l m)) (closed-begins p t l y z))
    (λ rest.
    ap (λ xs. read_call (xs ++ rest)) (take_after p t (high t + 1) (n + 1) l (omega arith))
    ∙ ap (λ xs. read_call (4 ∷ xs)) (append_assoc p (take (high t + 1) t) rest)
    ∙ read-after p (take (high t + 1) t ++ rest) l
    ∙ zero-ends _ _ t rest s h w
    ∙ ap garbled (sym m))

-- EACH WAY that a rename is garbled
names-longest :
    (p t : List ℕ) (d e n : ℕ) → length p ≡ 16 → bytes p ≡ true → bytes t ≡ true → Names d e t →
    read_rename d e (high t) t ≡ garbled n → LongestFront (4 ∷ p ++ t) n
unfolding longer call_number
names-longest p t d e n l y z (no_end s q) g =
    let a : length (p ++ t) ≡ length p + length t = length-append p t in
    let m : 17 + length t ≡ n = cc in
    let full : take (high t) t ≡ t = take_all (high t) t s in
    longest_all (4 ∷ p ++ t) n (omega arith) (subst (λ xs. BeginsCall (4 ∷ p ++ xs)) full (closed-begins p t l y z))
names-longest p t d e n l y z (last_zero s q h w) g =
    let m : n ≡ 17 + high t = cc in
    zero-longest p t n l y z s h w m
names-longest p t d e n l y z (short_name s k w q) g =
    let a : length (p ++ t) ≡ length p + length t = length-append p t in
    let m : 17 + length t ≡ n = cc in
    longest_all (4 ∷ p ++ t) n (omega arith)
    (begins-after p t (longer t) l y (bytes-append _ _ z (bytes_zeros _)) (λ d e. longer-call d e t s k w))
names-longest p t d e n l y z (whole _ _ _ q) g = absurd (no_call (renamed d e t) n (sym q ∙ g) refl)

pub rename-longest :
    (b : List ℕ) (n : ℕ) → bytes b ≡ true → 17 ≤ suc (length b) → of_kind 4 b ≡ garbled n → LongestFront (4 ∷ b) n
unfolding made
rename-longest b n y l g =
    let d : ℕ = from_le8 b in
    let e : ℕ = from_le8 (drop 8 b) in
    let le : 16 ≤ length b = omega arith in
    subst (λ xs. LongestFront (4 ∷ xs) n) (take-append-drop 16 b)
    (names-longest (take 16 b) (drop 16 b) d e n (length-take-le 16 b le)
    (bytes_take 16 b y) (bytes_drop 16 b y) (names_of d e (drop 16 b)) g)

-- TOO FEW BYTES for its numbers: zeros, and a length of zero, can follow
pub rename_short : (b : List ℕ) → bytes b ≡ true → suc (length b) < 17 → BeginsCall (4 ∷ b)
unfolding call_number
rename_short b y s =
    let z : List ℕ = replicate (16 - length b) 0 in
    let lz : length z ≡ 16 - length b = length-replicate (16 - length b) 0 in
    let lb : length (b ++ z) ≡ length b + length z = length-append b z in
    let e : b ++ (z ++ (0 ∷ [])) ≡ (b ++ z) ++ (0 ∷ []) = sym (append_assoc b z (0 ∷ [])) in
    let yz : bytes (z ++ (0 ∷ [])) ≡ true = bytes-append z _ (bytes_zeros _) (bytes_cons 0 [] (omega arith) bytes_nil) in
    begins (4 ∷ b) (z ++ (0 ∷ []))
    (bytes_cons 4 _ (omega arith) (bytes-append b _ y yz))
    (ap (λ xs. is_call (read_call (4 ∷ xs))) e ∙ ap is_call (read-after (b ++ z) (0 ∷ []) (omega arith)))
