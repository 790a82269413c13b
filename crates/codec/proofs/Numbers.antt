-- Numbers of eight bytes: a number is read back from its bytes, and eight bytes are those of the number that they stand for.
use Rattle.std.proofs.Common.{◌≡◌, ℕ, ◌+◌, ◌*◌, ◌/◌, ◌%◌, ◌<◌, ◌≤◌, true, List, [], ◌∷◌, ◌++◌, length, drop, sym, refl, ap, ◌∙◌, arith}
use native.Mathlib.Nat.{add-mul-div_right, div-eq_of_lt}
use Rattle.std.proofs.lemmas.List.{length-drop, drop-drop, drop_all}
use Rattle.std.proofs.lemmas.Bool.{ltb-true, lt-ltb}
use Rattle.model.specs.Calls.{bytes, eight}
use Rattle.codec.specs.Numbers.{le8, from_le8}
use Rattle.codec.proofs.Bytes.{byte_at, bytes_cons, bytes_drop}

-- WRITTEN, and read back
pub from_le8_back : (n : ℕ) (rest : List ℕ) → eight n ≡ true → from_le8 (le8 n ++ rest) ≡ n
from_le8_back n rest e = let h : n < 18446744073709551616 = ltb-true _ _ e in omega arith

-- the second number stands after the first
pub second_back : (d e : ℕ) (rest : List ℕ) → eight e ≡ true → from_le8 (drop 8 (le8 d ++ (le8 e ++ rest))) ≡ e
second_back d e rest h = from_le8_back e rest h

pub bytes_le8 : (n : ℕ) (xs : List ℕ) → bytes xs ≡ true → bytes (le8 n ++ xs) ≡ true
bytes_le8 n xs p =
    bytes_cons (n % 256) _ (omega arith)
    (bytes_cons (n / 256 % 256) _ (omega arith)
    (bytes_cons (n / 65536 % 256) _ (omega arith)
    (bytes_cons (n / 16777216 % 256) _ (omega arith)
    (bytes_cons (n / 4294967296 % 256) _ (omega arith)
    (bytes_cons (n / 1099511627776 % 256) _ (omega arith)
    (bytes_cons (n / 281474976710656 % 256) _ (omega arith)
    (bytes_cons (n / 72057594037927936 % 256) _ (omega arith) p)))))))

-- READ, and written again. A digit of n in base 256, with the digits below it in r and those above it in q
digit_at : (n M r c q : ℕ) → 0 < M → n ≡ r + (c + q * 256) * M → r < M → c < 256 → n / M % 256 ≡ c
digit_at n M r c q p e l s =
    let d : (r + (c + q * 256) * M) / M ≡ r / M + (c + q * 256) = add-mul-div_right r (c + q * 256) p in
    let z : r / M ≡ 0 = div-eq_of_lt l in
    rw (e, d, z) (omega arith)

le8-digits :
    (n a b c d e f g h : ℕ) → a < 256 → b < 256 → c < 256 → d < 256 → e < 256 → f < 256 → g < 256 → h < 256 →
    n ≡ a + b * 256 + c * 65536 + d * 16777216 + e * 4294967296 + f * 1099511627776 + g * 281474976710656 + h * 72057594037927936 →
    le8 n ≡ a ∷ b ∷ c ∷ d ∷ e ∷ f ∷ g ∷ h ∷ []
le8-digits n a b c d e f g h a' b' c' d' e' f' g' h' s =
    let r2 : ℕ = a + b * 256 in
    let r3 : ℕ = a + b * 256 + c * 65536 in
    let r4 : ℕ = a + b * 256 + c * 65536 + d * 16777216 in
    let r5 : ℕ = a + b * 256 + c * 65536 + d * 16777216 + e * 4294967296 in
    let r6 : ℕ = a + b * 256 + c * 65536 + d * 16777216 + e * 4294967296 + f * 1099511627776 in
    let r7 : ℕ = a + b * 256 + c * 65536 + d * 16777216 + e * 4294967296 + f * 1099511627776 + g * 281474976710656 in
    let q1 : ℕ = c + d * 256 + e * 65536 + f * 16777216 + g * 4294967296 + h * 1099511627776 in
    let q2 : ℕ = d + e * 256 + f * 65536 + g * 16777216 + h * 4294967296 in
    let q3 : ℕ = e + f * 256 + g * 65536 + h * 16777216 in
    let q4 : ℕ = f + g * 256 + h * 65536 in
    let p0 : n % 256 ≡ a = omega arith in
    let p1 : n / 256 % 256 ≡ b = digit_at n 256 a b q1 (omega arith) (omega arith) a' b' in
    let p2 : n / 65536 % 256 ≡ c = digit_at n 65536 r2 c q2 (omega arith) (omega arith) (omega arith) c' in
    let p3 : n / 16777216 % 256 ≡ d = digit_at n 16777216 r3 d q3 (omega arith) (omega arith) (omega arith) d' in
    let p4 : n / 4294967296 % 256 ≡ e = digit_at n 4294967296 r4 e q4 (omega arith) (omega arith) (omega arith) e' in
    let p5 : n / 1099511627776 % 256 ≡ f = digit_at n 1099511627776 r5 f (g + h * 256) (omega arith) (omega arith) (omega arith) f' in
    let p6 : n / 281474976710656 % 256 ≡ g = digit_at n 281474976710656 r6 g h (omega arith) (omega arith) (omega arith) g' in
    let p7 : n / 72057594037927936 % 256 ≡ h = digit_at n 72057594037927936 r7 h 0 (omega arith) (omega arith) (omega arith) h' in
    rw (p0, p1, p2, p3, p4, p5, p6, p7)

-- eight bytes at the front are those of the number that they stand for, which is below 2^64
pub le8_front : (bs : List ℕ) → 8 ≤ length bs → bytes bs ≡ true → (le8 (from_le8 bs) ++ drop 8 bs ≡ bs) × (eight (from_le8 bs) ≡ true)
le8_front [] l p = absurd (omega arith)
le8_front (a ∷ []) l p = absurd (omega arith)
le8_front (a ∷ b ∷ []) l p = absurd (omega arith)
le8_front (a ∷ b ∷ c ∷ []) l p = absurd (omega arith)
le8_front (a ∷ b ∷ c ∷ d ∷ []) l p = absurd (omega arith)
le8_front (a ∷ b ∷ c ∷ d ∷ e ∷ []) l p = absurd (omega arith)
le8_front (a ∷ b ∷ c ∷ d ∷ e ∷ f ∷ []) l p = absurd (omega arith)
le8_front (a ∷ b ∷ c ∷ d ∷ e ∷ f ∷ g ∷ []) l p = absurd (omega arith)
le8_front (a ∷ b ∷ c ∷ d ∷ e ∷ f ∷ g ∷ h ∷ bs) l p =
    let xs : List ℕ = a ∷ b ∷ c ∷ d ∷ e ∷ f ∷ g ∷ h ∷ bs in
    let a' : a < 256 = byte_at xs 0 p in
    let b' : b < 256 = byte_at xs 1 p in
    let c' : c < 256 = byte_at xs 2 p in
    let d' : d < 256 = byte_at xs 3 p in
    let e' : e < 256 = byte_at xs 4 p in
    let f' : f < 256 = byte_at xs 5 p in
    let g' : g < 256 = byte_at xs 6 p in
    let h' : h < 256 = byte_at xs 7 p in
    (ap (λ ys. ys ++ bs) (le8-digits (from_le8 xs) a b c d e f g h a' b' c' d' e' f' g' h' refl), lt-ltb _ _ (omega arith))

-- one number, and nothing after it
pub le8_all : (b : List ℕ) → 8 ≡ length b → bytes b ≡ true → le8 (from_le8 b) ≡ b
le8_all b l y =
    let le : 8 ≤ length b = omega arith in
    let ge : length b ≤ 8 = omega arith in
    let nil : drop 8 b ≡ [] = drop_all 8 b ge in
    sym (ap (λ xs. le8 (from_le8 b) ++ xs) nil) ∙ (le8_front b le y).0

-- two numbers at the front
pub two-front :
    (b : List ℕ) → 16 ≤ length b → bytes b ≡ true →
    (le8 (from_le8 b) ++ (le8 (from_le8 (drop 8 b)) ++ drop 16 b) ≡ b) ×
    (eight (from_le8 b) ≡ true) × (eight (from_le8 (drop 8 b)) ≡ true)
two-front b l y =
    let x : List ℕ = le8 (from_le8 b) in
    let le : 8 ≤ length b = omega arith in
    let long : 8 ≤ length (drop 8 b) = simp length-drop (omega arith) in
    let f = le8_front b le y in
    let g = le8_front (drop 8 b) long (bytes_drop 8 b y) in (
      ap (λ xs. x ++ (le8 (from_le8 (drop 8 b)) ++ xs)) (sym (drop-drop 8 8 b)) ∙ ap (λ xs. x ++ xs) g.0 ∙ f.0,
      f.1,
      g.1,
    )

-- two numbers, and nothing after them
pub two-all :
    (b : List ℕ) → 16 ≡ length b → bytes b ≡ true →
    (le8 (from_le8 b) ++ le8 (from_le8 (drop 8 b)) ≡ b) × (eight (from_le8 b) ≡ true) × (eight (from_le8 (drop 8 b)) ≡ true)
two-all b l y =
    let le : 16 ≤ length b = omega arith in
    let ge : length b ≤ 16 = omega arith in
    let nil : drop 16 b ≡ [] = drop_all 16 b ge in
    let w = two-front b le y in
    (sym (ap (λ xs. le8 (from_le8 b) ++ (le8 (from_le8 (drop 8 b)) ++ xs)) nil) ∙ w.0, w.1, w.2)
