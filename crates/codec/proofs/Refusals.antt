-- Refusals and their numbers: each way there and back, and which numbers are refusals'. A new refusal adds a line each
-- to `number_back`, `of_number` and `number_byte`.
use Rattle.std.proofs.Common.{◌≡◌, ℕ, ◌<◌, true, false, cond, eqb, Some, None, Option, sym, refl, ap, ◌∙◌, subst, inl, inr, arith}
use Rattle.std.specs.Option.{is_some}
use Rattle.std.proofs.lemmas.Bool.{eq-eqb, ne_eqb, cases_eq, false≢true}
use Rattle.calls.specs.declared.Refusal.{Refusal}
use Rattle.calls.specs.declared.Refusal.TheVariants.{NoCall, OutOfRange, NoDirectory, NoFile, NoEntry, NameTaken}
use Rattle.calls.specs.declared.Refusal.TheVariants.{InTheWay, NoRoom, TooManyOlder, NoPlace}
use Rattle.calls.specs.Meaning.{refusal_number, refusal_from_number}
use Rattle.codec.specs.AnswerBytes.{is_refusal}
use Rattle.codec.specs.Promises.{RefusalsNumbered}

number_back : (r : Refusal) → refusal_from_number (refusal_number r) ≡ Some r
number_back NoCall = refl
number_back OutOfRange = refl
number_back NoDirectory = refl
number_back NoFile = refl
number_back NoEntry = refl
number_back NameTaken = refl
number_back InTheWay = refl
number_back NoRoom = refl
number_back TooManyOlder = refl
number_back NoPlace = refl

-- one number of the list, and those after it
or_later :
    (k : ℕ) (q r : Refusal) (later : Option Refusal) → (later ≡ Some r → refusal_number r ≡ k) →
    cond (eqb k (refusal_number q)) (Some q) later ≡ Some r → refusal_number r ≡ k
or_later k q r later f e =
    elim (cases_eq k (refusal_number q)) [
      | inl h ↦
          let s : Some q ≡ Some r = rw (eq-eqb k (refusal_number q) h) at e in
          let t : q ≡ r = cc in
          sym (ap refusal_number t) ∙ sym h
      | inr h ↦ f (rw (ne_eqb k (refusal_number q) h) at e)
    ]

of_number : (k : ℕ) (r : Refusal) → refusal_from_number k ≡ Some r → refusal_number r ≡ k
of_number k r =
    or_later k NoCall r _
    (or_later k OutOfRange r _
    (or_later k NoDirectory r _
    (or_later k NoFile r _
    (or_later k NoEntry r _
    (or_later k NameTaken r _
    (or_later k InTheWay r _
    (or_later k NoRoom r _
    (or_later k TooManyOlder r _
    (or_later k NoPlace r _
    (λ e. let z : ◌≡◌ {A = ℕ} 0 1 = cc in absurd (omega arith)))))))))))

pub numbered : RefusalsNumbered
numbered = (number_back, of_number)

-- a number with a refusal is one, and one without is none
pub some_refusal : (k : ℕ) (r : Refusal) → refusal_from_number k ≡ Some r → (is_refusal k ≡ true) × (refusal_number r ≡ k)
unfolding is_refusal
some_refusal k r e = (ap is_some e, of_number k r e)

pub no_refusal : (k : ℕ) → refusal_from_number k ≡ None → is_refusal k ≡ false
unfolding is_refusal
no_refusal k e = ap is_some e

-- a refusal's number is a byte
number_byte : (r : Refusal) → refusal_number r < 256
number_byte NoCall = omega arith
number_byte OutOfRange = omega arith
number_byte NoDirectory = omega arith
number_byte NoFile = omega arith
number_byte NoEntry = omega arith
number_byte NameTaken = omega arith
number_byte InTheWay = omega arith
number_byte NoRoom = omega arith
number_byte TooManyOlder = omega arith
number_byte NoPlace = omega arith

pub refusal_byte : (k : ℕ) → is_refusal k ≡ true → k < 256
unfolding is_refusal
refusal_byte k h = go (refusal_from_number k) refl h
  where
    go : (o : Option Refusal) → refusal_from_number k ≡ o → is_some o ≡ true → k < 256
    go (Some r) e _ = subst (λ n. n < 256) (of_number k r e) (number_byte r)
    go None e t = absurd (false≢true t)
