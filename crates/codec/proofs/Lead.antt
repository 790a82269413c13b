-- The digits at the front of bytes, as they are read: written again they are the same, and what follows does not change them.
use Rattle.std.proofs.Common.{◌≡◌, ℕ, zero, suc, ◌+◌, ◌*◌, ◌/◌, ◌%◌, ◌<◌, ◌≤◌, true, cond, ltb, ◌⊎◌, List, [], ◌∷◌, ◌++◌, length, get_or, take, refl, ap, inl, inr, arith}
use Rattle.std.proofs.lemmas.Bool.{lt-ltb, le-ltb, cases_lt}
use Rattle.model.specs.Calls.{bytes}
use Rattle.codec.specs.Lengths.{digits_by, digits, high, value}
use Rattle.codec.proofs.Bytes.{head_byte, tail_bytes}

-- the digits at the front, up to the last one
abbrev pub lead : List ℕ → List ℕ
lead [] = []
lead (b ∷ bs) = b ∷ cond (ltb b 128) [] (lead bs)

pub lead_is : (t : List ℕ) → take (high t + 1) t ≡ lead t
lead_is [] = refl
lead_is (b ∷ bs) =
    let ih = lead_is bs in
    let q : suc (high bs) + 1 ≡ suc (high bs + 1) = omega arith in
    elim (cases_lt b 128) [
      | inl l ↦ rw (lt-ltb b 128 l)
      | inr l ↦ rw (le-ltb b 128 l, q) (ap (λ xs. b ∷ xs) ih)
    ]

pub high_le : (t : List ℕ) → high t ≤ length t
high_le [] = omega arith
high_le (b ∷ bs) =
    let ih = high_le bs in
    elim (cases_lt b 128) [
      | inl l ↦ rw (lt-ltb b 128 l) (omega arith)
      | inr l ↦ rw (le-ltb b 128 l) (omega arith)
    ]

-- WRITTEN AGAIN. The last digit is no zero, unless it is the only one
abbrev pub LastGood : List ℕ → Type 0
LastGood t = (high t ≡ 0) ⊎ (0 < get_or t (high t) 0)

value_pos : (t : List ℕ) → 0 < get_or t (high t) 0 → 0 < value (lead t)
value_pos [] p = absurd (omega arith)
value_pos (b ∷ bs) p =
    elim (cases_lt b 128) [
      | inl l ↦ let e = lt-ltb b 128 l in let q : 0 < b = rw e at p in rw e (omega arith)
      | inr l ↦ let e = le-ltb b 128 l in let q : 0 < value (lead bs) = value_pos bs (rw e at p) in rw e (omega arith)
    ]

digits-back :
    (t : List ℕ) (f : ℕ) → bytes t ≡ true → 0 < get_or t (high t) 0 → value (lead t) ≤ f →
    digits_by f (value (lead t)) ≡ lead t
digits-back [] f y p l = absurd (omega arith)
digits-back (b ∷ bs) zero y p l = let q = value_pos (b ∷ bs) p in absurd (omega arith)
digits-back (b ∷ bs) (suc f) y p l =
    let s = head_byte b bs y in
    let ih : 0 < get_or bs (high bs) 0 → value (lead bs) ≤ f → digits_by f (value (lead bs)) ≡ lead bs =
    digits-back bs f (tail_bytes b bs y) in
    elim (cases_lt b 128) [
      | inl h ↦
          let e = lt-ltb b 128 h in
          let v : b % 128 + 128 * 0 ≡ b = omega arith in
          rw (e, v, e)
      | inr h ↦
          let e = le-ltb b 128 h in
          let p' : 0 < get_or bs (high bs) 0 = rw e at p in
          let q : 0 < value (lead bs) = value_pos bs p' in
          let l' : b % 128 + 128 * value (lead bs) ≤ suc f = rw e at l in
          let big : 128 ≤ b % 128 + 128 * value (lead bs) = omega arith in
          let low : 128 + (b % 128 + 128 * value (lead bs)) % 128 ≡ b = omega arith in
          let up : (b % 128 + 128 * value (lead bs)) / 128 ≡ value (lead bs) = omega arith in
          rw (e, le-ltb _ 128 big, low, up) (ap (λ xs. b ∷ xs) (ih p' (omega arith)))
    ]

pub digits_lead : (t : List ℕ) → bytes t ≡ true → high t < length t → LastGood t → digits (value (lead t)) ≡ lead t
digits_lead t y l (inr p) = digits-back t (value (lead t)) y p (omega arith)
digits_lead [] y l (inl z) = absurd (omega arith)
digits_lead (zero ∷ bs) y l (inl z) = refl
digits_lead (suc b ∷ bs) y l (inl z) =
    let t : List ℕ = suc b ∷ bs in
    elim (cases_lt (suc b) 128) [
      | inl h ↦
          let p : 0 < get_or (suc b ∷ bs) (high (suc b ∷ bs)) 0 = rw (lt-ltb (suc b) 128 h) (omega arith) in
          digits-back t (value (lead t)) y p (omega arith)
      | inr h ↦ let w : suc (high bs) ≡ 0 = rw (le-ltb (suc b) 128 h) at z in absurd (omega arith)
    ]

-- WHAT MAY FOLLOW
pub high_lead : (t rest : List ℕ) → high t < length t → high (lead t ++ rest) ≡ high t
high_lead [] rest l = absurd (omega arith)
high_lead (b ∷ bs) rest l =
    elim (cases_lt b 128) [
      | inl h ↦ rw (lt-ltb b 128 h)
      | inr h ↦
          let e = le-ltb b 128 h in
          let l' : suc (high bs) < suc (length bs) = rw e at l in
          rw e (ap suc (high_lead bs rest (omega arith)))
    ]

pub high_closed : (t : List ℕ) (b : ℕ) (rest : List ℕ) → b < 128 → high (take (high t) t ++ b ∷ rest) ≡ high t
high_closed [] b rest l = rw (lt-ltb b 128 l)
high_closed (x ∷ xs) b rest l =
    elim (cases_lt x 128) [
      | inl h ↦ rw (lt-ltb x 128 h, lt-ltb b 128 l)
      | inr h ↦ let e = le-ltb x 128 h in rw (e, e) (ap suc (high_closed xs b rest l))
    ]

pub high-append : (t rest : List ℕ) → high t < length t → high (t ++ rest) ≡ high t
high-append [] rest l = absurd (omega arith)
high-append (b ∷ bs) rest l =
    elim (cases_lt b 128) [
      | inl h ↦ rw (lt-ltb b 128 h)
      | inr h ↦
          let e = le-ltb b 128 h in
          let l' : suc (high bs) < suc (length bs) = rw e at l in
          rw e (ap suc (high-append bs rest (omega arith)))
    ]

pub lead-append : (t rest : List ℕ) → high t < length t → lead (t ++ rest) ≡ lead t
lead-append [] rest l = absurd (omega arith)
lead-append (b ∷ bs) rest l =
    elim (cases_lt b 128) [
      | inl h ↦ rw (lt-ltb b 128 h)
      | inr h ↦
          let e = le-ltb b 128 h in
          let l' : suc (high bs) < suc (length bs) = rw e at l in
          rw e (ap (λ xs. b ∷ xs) (lead-append bs rest (omega arith)))
    ]
