-- How bytes are read, by the number of the call: one case for each way, with its facts and what is then read.
use Rattle.std.proofs.Common.{◌≡◌, ℕ, suc, ◌<◌, ◌≤◌, Bool, true, false, not, List, ◌∷◌, length, drop, sym, refl, ◌∙◌, inl, inr, arith}
use Rattle.std.proofs.lemmas.Bool.{lt-ltb, le-ltb, ne_eqb, cases_lt, and_right, true≢false}
use Rattle.model.specs.Calls.{Call, garbled}
use Rattle.codec.specs.Numbers.{from_le8}
use Rattle.codec.specs.CallBytes.{numbers_end, open_ended, made, read_by, read_call}

-- the call with number k, by what comes after that number
abbrev pub of_kind : ℕ → List ℕ → Call
of_kind k b = made k (from_le8 b) (from_le8 (drop 8 b)) (drop (numbers_end k) (k ∷ b))

pub data Reads (k : ℕ) (b : List ℕ) : Type 0 where
  no_kind : 11 < k → read_call (k ∷ b) ≡ garbled 0 → Reads k b
  short : k ≤ 11 → suc (length b) < numbers_end k → read_call (k ∷ b) ≡ garbled (suc (length b)) → Reads k b
  long : k ≤ 11 → open_ended k ≡ false → numbers_end k < suc (length b) → read_call (k ∷ b) ≡ garbled (numbers_end k) →
      Reads k b
  fits : k ≤ 11 → numbers_end k ≤ suc (length b) → (open_ended k ≡ false → numbers_end k ≡ suc (length b)) →
      read_call (k ∷ b) ≡ of_kind k b → Reads k b

starts : (k : ℕ) (b : List ℕ) → read_call (k ∷ b) ≡ read_by k (k ∷ b)
starts k b = rw (ne_eqb (suc (length b)) 0 (λ e. omega arith))

-- a number that no call has
pub read_no_kind : (k : ℕ) (b : List ℕ) → 11 < k → read_call (k ∷ b) ≡ garbled 0
read_no_kind k b h = starts k b ∙ rw (lt-ltb 11 k h)

-- bytes after the end of a call that has an end
pub read-long :
    (k : ℕ) (b : List ℕ) → k ≤ 11 → open_ended k ≡ false → numbers_end k < suc (length b) →
    read_call (k ∷ b) ≡ garbled (numbers_end k)
read-long k b h o l =
    let le : numbers_end k ≤ suc (length b) = omega arith in
    starts k b ∙
    rw (le-ltb 11 k h, le-ltb (suc (length b)) (numbers_end k) le, o, lt-ltb (numbers_end k) (suc (length b)) l)

-- a call that has no end of its own, and its numbers are there
pub read-open :
    (k : ℕ) (b : List ℕ) → k ≤ 11 → numbers_end k ≤ suc (length b) → open_ended k ≡ true → read_call (k ∷ b) ≡ of_kind k b
read-open k b h l o = starts k b ∙ rw (le-ltb 11 k h, le-ltb (suc (length b)) (numbers_end k) l, o)

-- any call whose bytes end where its numbers do
pub read_closed : (k : ℕ) (b : List ℕ) → k ≤ 11 → numbers_end k ≡ suc (length b) → read_call (k ∷ b) ≡ of_kind k b
read_closed k b h e =
    let l : numbers_end k ≤ suc (length b) = omega arith in
    let r : suc (length b) ≤ numbers_end k = omega arith in
    starts k b ∙
    rw (
      le-ltb 11 k h,
      le-ltb (suc (length b)) (numbers_end k) l,
      le-ltb (numbers_end k) (suc (length b)) r,
      and_right (not (open_ended k)) false refl,
    )

pub reads : (k : ℕ) (b : List ℕ) → Reads k b
reads k b =
    elim (cases_lt 11 k) [
      | inl h ↦ no_kind h (read_no_kind k b h)
      | inr h ↦ elim (cases_lt (suc (length b)) (numbers_end k)) [
        | inl s ↦ short h s (starts k b ∙ rw (le-ltb 11 k h, lt-ltb (suc (length b)) (numbers_end k) s))
        | inr s ↦ go (open_ended k) refl h s
      ]
    ]
  where
    go : (o : Bool) → open_ended k ≡ o → k ≤ 11 → numbers_end k ≤ suc (length b) → Reads k b
    go true e h s = fits h s (λ f. absurd (true≢false (sym e ∙ f))) (read-open k b h s e)
    go false e h s =
        elim (cases_lt (numbers_end k) (suc (length b))) [
          | inl l ↦ long h e l (read-long k b h e l)
          | inr l ↦ let q : numbers_end k ≡ suc (length b) = omega arith in fits h s (λ f. q) (read_closed k b h q)
        ]
