-- Nothing but a call is read as one: where a call is read, the bytes are its bytes.
use Rattle.std.proofs.Common.{◌≡◌, ℕ, suc, ◌+◌, ◌-◌, ◌<◌, ◌≤◌, true, false, List, [], ◌∷◌, ◌++◌, length, take, drop, sym, refl, ap, ◌∙◌, subst, arith}
use Rattle.std.proofs.lemmas.List.{length-drop, length-take-le, take-append-drop, drop-drop, nil_from_length}
use Rattle.std.proofs.lemmas.Bool.{and_from}
use Rattle.model.specs.Calls.{call_number, bytes, eight, readable}
use Rattle.codec.specs.Numbers.{le8, from_le8}
use Rattle.codec.specs.Lengths.{digits, high, value}
use Rattle.codec.specs.CallBytes.{read_rename, numbers_end, open_ended, made, read_call}
use Rattle.codec.specs.Promises.{is_call, BytesOf, OnlyCallsRead}
use Rattle.codec.proofs.Bytes.{tail_bytes, bytes_take, bytes_drop}
use Rattle.codec.proofs.Numbers.{le8_front, le8_all, two-front, two-all}
use Rattle.codec.proofs.Lead.{lead, lead_is, LastGood, digits_lead}
use Rattle.codec.proofs.Kind.{Kind, a_find, a_make_file, a_make_dir, a_remove, a_rename, a_list, a_size, a_read}
use Rattle.codec.proofs.Kind.{a_write, a_resize, a_sync_file, a_sync_tree, kind}
use Rattle.codec.proofs.CallRead.{of_kind, Reads, no_kind, short, long, fits, reads}
use Rattle.codec.proofs.RenameRead.{renamed, Names, no_end, last_zero, short_name, whole, names_of}
use Rattle.codec.proofs.Carried.{no_call}

-- A RENAME
whole-bytes :
    (d e : ℕ) (t : List ℕ) → eight d ≡ true → eight e ≡ true → bytes t ≡ true →
    high t < length t → LastGood t → high t + 1 + value (lead t) ≤ length t →
    BytesOf (renamed d e t) (4 ∷ le8 d ++ (le8 e ++ t))
unfolding readable call_number
whole-bytes d e t dd ee y l g w =
    let h : ℕ = high t + 1 in
    let v : ℕ = value (lead t) in
    let n : List ℕ = take v (drop h t) in
    let m : List ℕ = drop (h + v) t in
    let ds : List ℕ = digits (length n) in
    let long : length (drop h t) ≡ length t - h = length-drop h t in
    let le : v ≤ length (drop h t) = omega arith in
    let ln : length n ≡ v = length-take-le v (drop h t) le in
    let nm : n ++ m ≡ drop h t = ap (λ xs. n ++ xs) (sym (drop-drop v h t)) ∙ take-append-drop v (drop h t) in
    let dg : ds ≡ take h t = ap digits ln ∙ digits_lead t y l g ∙ sym (lead_is t) in
    let eq : ds ++ (n ++ m) ≡ t = ap (λ xs. ds ++ xs) nm ∙ ap (λ xs. xs ++ drop h t) dg ∙ take-append-drop h t in
    let yn : bytes n ≡ true = bytes_take v (drop h t) (bytes_drop h t y) in
    let ym : bytes m ≡ true = bytes_drop (h + v) t y in (
      and_from _ _ (and_from _ _ dd yn) (and_from _ _ ee ym),
      refl,
      ap (λ xs. 4 ∷ le8 d ++ (le8 e ++ xs)) eq,
    )

only-names :
    (d e : ℕ) (t : List ℕ) → eight d ≡ true → eight e ≡ true → bytes t ≡ true → Names d e t →
    is_call (read_rename d e (high t) t) ≡ true → BytesOf (read_rename d e (high t) t) (4 ∷ le8 d ++ (le8 e ++ t))
only-names d e t dd ee y (no_end _ q) c = absurd (no_call _ _ q c)
only-names d e t dd ee y (last_zero _ q _ _) c = absurd (no_call _ _ q c)
only-names d e t dd ee y (short_name _ _ _ q) c = absurd (no_call _ _ q c)
only-names d e t dd ee y (whole l g w q) c =
    subst (λ r. BytesOf r (4 ∷ le8 d ++ (le8 e ++ t))) (sym q) (whole-bytes d e t dd ee y l g w)

-- EACH NUMBER of a call
only-kind :
    (k : ℕ) (b : List ℕ) → Kind k → numbers_end k ≤ suc (length b) →
    (open_ended k ≡ false → numbers_end k ≡ suc (length b)) → bytes b ≡ true →
    is_call (of_kind k b) ≡ true → BytesOf (of_kind k b) (k ∷ b)
unfolding made readable call_number
only-kind _ b a_find l o y c =
    let f = le8_front b (omega arith) y in (and_from _ _ f.1 (bytes_drop 8 b y), refl, ap (λ xs. 0 ∷ xs) f.0)
only-kind _ b a_make_file l o y c =
    let f = le8_front b (omega arith) y in (and_from _ _ f.1 (bytes_drop 8 b y), refl, ap (λ xs. 1 ∷ xs) f.0)
only-kind _ b a_make_dir l o y c =
    let f = le8_front b (omega arith) y in (and_from _ _ f.1 (bytes_drop 8 b y), refl, ap (λ xs. 2 ∷ xs) f.0)
only-kind _ b a_remove l o y c =
    let f = le8_front b (omega arith) y in (and_from _ _ f.1 (bytes_drop 8 b y), refl, ap (λ xs. 3 ∷ xs) f.0)
only-kind _ b a_rename l o y c =
    let w = two-front b (omega arith) y in
    subst (λ xs. BytesOf (of_kind 4 b) (4 ∷ xs)) w.0
    (only-names (from_le8 b) (from_le8 (drop 8 b)) (drop 16 b) w.1 w.2 (bytes_drop 16 b y) (names_of _ _ _) c)
only-kind _ b a_list l o y c =
    let q = o refl in
    let w = two-all b (omega arith) y in (and_from _ _ w.1 w.2, refl, ap (λ xs. 5 ∷ xs) w.0)
only-kind _ b a_size l o y c =
    let q = o refl in ((le8_front b (omega arith) y).1, refl, ap (λ xs. 6 ∷ xs) (le8_all b (omega arith) y))
only-kind _ b a_read l o y c =
    let q = o refl in
    let w = two-all b (omega arith) y in (and_from _ _ w.1 w.2, refl, ap (λ xs. 7 ∷ xs) w.0)
only-kind _ b a_write l o y c =
    let w = two-front b (omega arith) y in
    (and_from _ _ (and_from _ _ w.1 w.2) (bytes_drop 16 b y), refl, ap (λ xs. 8 ∷ xs) w.0)
only-kind _ b a_resize l o y c =
    let q = o refl in
    let w = two-all b (omega arith) y in (and_from _ _ w.1 w.2, refl, ap (λ xs. 9 ∷ xs) w.0)
only-kind _ b a_sync_file l o y c =
    let q = o refl in ((le8_front b (omega arith) y).1, refl, ap (λ xs. 10 ∷ xs) (le8_all b (omega arith) y))
only-kind _ b a_sync_tree l o y c =
    let q = o refl in
    let z : length b ≡ 0 = omega arith in (refl, refl, ap (λ xs. 11 ∷ xs) (sym (nil_from_length b z)))

only-reads :
    (k : ℕ) (b : List ℕ) → Reads k b → bytes (k ∷ b) ≡ true → is_call (read_call (k ∷ b)) ≡ true →
    BytesOf (read_call (k ∷ b)) (k ∷ b)
only-reads k b (no_kind _ q) y c = absurd (no_call _ _ q c)
only-reads k b (short _ _ q) y c = absurd (no_call _ _ q c)
only-reads k b (long _ _ _ q) y c = absurd (no_call _ _ q c)
only-reads k b (fits h l o q) y c =
    subst (λ r. BytesOf r (k ∷ b)) (sym q)
    (only-kind k b (kind k h) l o (tail_bytes k b y) (subst (λ r. is_call r ≡ true) q c))

pub only_calls : OnlyCallsRead
only_calls [] y c = absurd (no_call (read_call []) 0 refl c)
only_calls (k ∷ b) y c = only-reads k b (reads k b) y c
