-- Each answer is read back from its bytes, which are bytes, and nothing else is read as an answer.
use Rattle.std.proofs.Common.{◌≡◌, ℕ, zero, suc, ◌+◌, ◌≤◌, Bool, true, false, cond, List, [], ◌∷◌, ◌++◌, length, drop, Some, None, Option, sym, refl, ap, ◌∙◌, subst, inl, inr, arith}
use Rattle.std.proofs.lemmas.List.{nil_from_length}
use Rattle.std.proofs.lemmas.Bool.{lt-ltb, le-ltb, eq-eqb, ne_eqb, cases_lt, cases_eq, and_parts, and_from}
use Rattle.model.specs.Calls.{Answer, refused, done, number, entry, block, bytes}
use Rattle.codec.specs.Numbers.{le8, from_le8}
use Rattle.codec.specs.AnswerBytes.{is_refusal, readable_answer, answer_bytes, answer_by, read_answer}
use Rattle.codec.specs.Promises.{AnswersCarried, OnlyAnswersRead, AnswersToldApart, AnswersAreBytes}
use Rattle.codec.proofs.Bytes.{bytes_nil, bytes_cons, tail_bytes, bytes_drop}
use Rattle.codec.proofs.Numbers.{from_le8_back, le8_front, le8_all, bytes_le8}
use Rattle.codec.proofs.Refusals.{refusal_byte}

starts : (k : ℕ) (b : List ℕ) → read_answer (k ∷ b) ≡ answer_by k (k ∷ b)
starts k b = rw (ne_eqb (suc (length b)) 0 (λ e. omega arith))

-- READ BACK
refused_back : (r p : ℕ) → is_refusal r ≡ true → from_le8 (le8 p) ≡ p → answer_by 0 (0 ∷ r ∷ le8 p) ≡ Some (refused r p)
refused_back r p h e = rw h (ap (λ x. Some (refused r x)) e)

pub answers_back : AnswersCarried
unfolding readable_answer
answers_back (refused r p) h =
    let w = and_parts _ _ h in starts 0 (r ∷ le8 p) ∙ refused_back r p w.0 (from_le8_back p [] w.1)
answers_back done h = starts 1 []
answers_back (number n) h = starts 2 (le8 n) ∙ ap (λ x. Some (number x)) (from_le8_back n [] h)
answers_back (entry n i) h =
    let l : 9 ≤ 9 + length n = omega arith in
    let e : length (3 ∷ le8 i ++ n) ≡ 9 + length n = omega arith in
    starts 3 (le8 i ++ n)
    ∙ rw (e, le-ltb (9 + length n) 9 l) (ap (λ x. Some (entry n x)) (from_le8_back i n (and_parts _ _ h).0))
answers_back (block b) h = starts 4 b

pub answers_apart : AnswersToldApart
answers_apart a b p q e =
    let s : Some a ≡ Some b = sym (answers_back a p) ∙ ap read_answer e ∙ answers_back b q in
    let t : a ≡ b = cc in t

pub answers_bytes : AnswersAreBytes
unfolding readable_answer
answers_bytes (refused r p) h =
    bytes_cons 0 _ (omega arith) (bytes_cons r _ (refusal_byte r (and_parts _ _ h).0) (bytes_le8 p [] bytes_nil))
answers_bytes done h = bytes_cons 1 [] (omega arith) bytes_nil
answers_bytes (number n) h = bytes_cons 2 _ (omega arith) (bytes_le8 n [] bytes_nil)
answers_bytes (entry n i) h = bytes_cons 3 _ (omega arith) (bytes_le8 i n (and_parts _ _ h).1)
answers_bytes (block b) h = bytes_cons 4 b (omega arith) h

-- NOTHING ELSE
abbrev Only : List ℕ → Option Answer → Type 0
Only bs o = (a : Answer) → o ≡ Some a → (readable_answer a ≡ true) × (answer_bytes a ≡ bs)

nothing : (bs : List ℕ) → Only bs None
nothing bs a e = let z : ◌≡◌ {A = ℕ} 0 1 = cc in absurd (omega arith)

this : (bs : List ℕ) (a : Answer) → readable_answer a ≡ true → answer_bytes a ≡ bs → Only bs (Some a)
this bs a p q b e = let f : a ≡ b = cc in subst (λ x. (readable_answer x ≡ true) × (answer_bytes x ≡ bs)) f (p, q)

only_refused : (r : ℕ) (b : List ℕ) → bytes (r ∷ b) ≡ true → length b ≡ 8 → (o : Bool) → is_refusal r ≡ o →
    Only (0 ∷ r ∷ b) (cond o (Some (refused r (from_le8 b))) None)
unfolding readable_answer
only_refused r b y l true e =
    let yb = tail_bytes r b y in
    this (0 ∷ r ∷ b) (refused r (from_le8 b)) (and_from _ _ e (le8_front b (omega arith) yb).1)
    (ap (λ xs. 0 ∷ r ∷ xs) (le8_all b (omega arith) yb))
only_refused r b y l false e = nothing _

only_by : (k : ℕ) (b : List ℕ) → bytes b ≡ true → Only (k ∷ b) (answer_by k (k ∷ b))
unfolding readable_answer
only_by zero [] y = nothing (0 ∷ [])
only_by zero (r ∷ b) y =
    elim (cases_eq (suc (suc (length b))) 10) [
      | inr ne ↦ rw (ne_eqb (suc (suc (length b))) 10 ne) (nothing _)
      | inl e ↦ rw (eq-eqb (suc (suc (length b))) 10 e) (only_refused r b y (omega arith) (is_refusal r) refl)
    ]
only_by (suc zero) b y =
    elim (cases_eq (suc (length b)) 1) [
      | inr ne ↦ rw (ne_eqb (suc (length b)) 1 ne) (nothing _)
      | inl e ↦
          let nil : [] ≡ b = sym (nil_from_length b (omega arith)) in
          rw (eq-eqb (suc (length b)) 1 e) (this (1 ∷ b) done refl (ap (λ xs. 1 ∷ xs) nil))
    ]
only_by (suc (suc zero)) b y =
    elim (cases_eq (suc (length b)) 9) [
      | inr ne ↦ rw (ne_eqb (suc (length b)) 9 ne) (nothing _)
      | inl e ↦
          let f = le8_front b (omega arith) y in
          rw (eq-eqb (suc (length b)) 9 e)
          (this (2 ∷ b) (number (from_le8 b)) f.1 (ap (λ xs. 2 ∷ xs) (le8_all b (omega arith) y)))
    ]
only_by (suc (suc (suc zero))) b y =
    elim (cases_lt (suc (length b)) 9) [
      | inl l ↦ rw (lt-ltb (suc (length b)) 9 l) (nothing _)
      | inr l ↦
          let f = le8_front b (omega arith) y in
          rw (le-ltb (suc (length b)) 9 l)
          (this (3 ∷ b) (entry (drop 8 b) (from_le8 b)) (and_from _ _ f.1 (bytes_drop 8 b y)) (ap (λ xs. 3 ∷ xs) f.0))
    ]
only_by (suc (suc (suc (suc zero)))) b y = this (4 ∷ b) (block b) y refl
only_by (suc (suc (suc (suc (suc k))))) b y =
    let n : ℕ = suc (suc (suc (suc (suc k)))) in
    rw (
      ne_eqb n 0 (λ e. omega arith),
      ne_eqb n 1 (λ e. omega arith),
      ne_eqb n 2 (λ e. omega arith),
      ne_eqb n 3 (λ e. omega arith),
      ne_eqb n 4 (λ e. omega arith),
    )
    (nothing _)

pub only_answers : OnlyAnswersRead
only_answers [] a y e = nothing [] a e
only_answers (k ∷ b) a y e = only_by k b (tail_bytes k b y) a (sym (starts k b) ∙ e)
