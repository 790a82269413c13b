-- How a rename's length and names are read: one case for each way, with its facts and what is then read.
use Rattle.std.proofs.Common.{◌≡◌, ℕ, ◌+◌, ◌<◌, ◌≤◌, false, ◌&&◌, eqb, ltb, List, length, get_or, take, drop, ◌∙◌, inl, inr, arith}
use Rattle.std.proofs.lemmas.Bool.{lt-ltb, le-ltb, le-leb, lt-leb, eq-eqb, ne_eqb, cases_lt, and_right, and_left}
use Rattle.model.specs.Calls.{Call, rename, garbled}
use Rattle.codec.specs.Lengths.{high, value}
use Rattle.codec.specs.CallBytes.{read_names, read_rename}
use Rattle.codec.proofs.Lead.{lead, lead_is, LastGood}

abbrev pub renamed : ℕ → ℕ → List ℕ → Call
renamed d e t = rename d (take (value (lead t)) (drop (high t + 1) t)) e (drop (high t + 1 + value (lead t)) t)

pub data Names (d e : ℕ) (t : List ℕ) : Type 0 where
  no_end : length t ≤ high t → read_rename d e (high t) t ≡ garbled (17 + length t) → Names d e t
  last_zero : high t < length t → read_rename d e (high t) t ≡ garbled (17 + high t) → 0 < high t → get_or t (high t) 0 ≡ 0 →
      Names d e t
  short_name : high t < length t → LastGood t → length t < high t + 1 + value (lead t) →
      read_rename d e (high t) t ≡ garbled (17 + length t) → Names d e t
  whole : high t < length t → LastGood t → high t + 1 + value (lead t) ≤ length t →
      read_rename d e (high t) t ≡ renamed d e t → Names d e t

names_no_end : (d e : ℕ) (t : List ℕ) → length t ≤ high t → read_rename d e (high t) t ≡ garbled (17 + length t)
names_no_end d e t h = rw (le-leb (length t) (high t) h)

pub names-last-zero :
    (d e h : ℕ) (t : List ℕ) → h < length t → 0 < h → get_or t h 0 ≡ 0 → read_rename d e h t ≡ garbled (17 + h)
names-last-zero d e h t l p z = rw (lt-leb (length t) h l, lt-ltb 0 h p, eq-eqb (get_or t h 0) 0 z)

-- the test for a zero too many is passed
abbrev Passed : List ℕ → Type 0
Passed t = (ltb 0 (high t) && eqb (get_or t (high t) 0) 0) ≡ false

pub passed : (t : List ℕ) → LastGood t → Passed t
passed t (inl z) = and_left (ltb 0 (high t)) _ (le-ltb 0 (high t) (omega arith))
passed t (inr p) = and_right (ltb 0 (high t)) _ (ne_eqb (get_or t (high t) 0) 0 (λ e. omega arith))

names-go :
    (d e : ℕ) (t : List ℕ) → high t < length t → Passed t →
    read_rename d e (high t) t ≡ read_names d e (high t + 1) (value (lead t)) t
names-go d e t l g = rw (lt-leb (length t) (high t) l, g, lead_is t)

pub names-whole :
    (d e : ℕ) (t : List ℕ) → high t < length t → Passed t → high t + 1 + value (lead t) ≤ length t →
    read_rename d e (high t) t ≡ renamed d e t
names-whole d e t l g w = names-go d e t l g ∙ rw (le-ltb (length t) (high t + 1 + value (lead t)) w)

pub names_of : (d e : ℕ) (t : List ℕ) → Names d e t
names_of d e t =
    elim (cases_lt (high t) (length t)) [
      | inr h ↦ no_end h (names_no_end d e t h)
      | inl h ↦ elim (cases_lt 0 (high t)) [
        | inr z ↦ rest h (inl (omega arith))
        | inl p ↦ elim (cases_lt 0 (get_or t (high t) 0)) [
          | inr z ↦ let w : get_or t (high t) 0 ≡ 0 = omega arith in last_zero h (names-last-zero d e (high t) t h p w) p w
          | inl q ↦ rest h (inr q)
        ]
      ]
    ]
  where
    rest : high t < length t → LastGood t → Names d e t
    rest h g =
        let v : ℕ = value (lead t) in
        elim (cases_lt (length t) (high t + 1 + value (lead t))) [
          | inl s ↦ short_name h g s (names-go d e t h (passed t g) ∙ rw (lt-ltb (length t) (high t + 1 + v) s))
          | inr s ↦ whole h g s (names-whole d e t h (passed t g) s)
        ]
