-- Ten bytes are a refusal just where some refusal has the number: read by it, written with it.
use Rattle.std.proofs.Common.{◌≡◌, ℕ, List, ◌∷◌, length, Some, None, Option, Ok, Err, Result, sym, ap, ◌∙◌, rules}
use Rattle.std.specs.Result.{result_ok}
use Rattle.model.specs.Calls.{Answer, refused}
use Rattle.calls.specs.declared.Refusal.{Refusal}
use Rattle.calls.specs.declared.UnknownRefusal.{UnknownRefusal}
use Rattle.calls.specs.Meaning.{refusal_number, refusal_from_number, RefusalRead}
use Rattle.codec.specs.Numbers.{from_le8}
use Rattle.codec.specs.AnswerBytes.{read_refused}
use Rattle.codec.proofs.Refusals.{some_refusal, no_refusal}
use Rattle.decode.specs.Read.{any_answer}
use Rattle.decode.proofs.answer.refused.Goals as goal

-- what the number was read as
known : (n : ℕ) (r : Result Refusal UnknownRefusal) (x : Option Refusal) → RefusalRead n r → x ≡ result_ok r → refusal_from_number n ≡ x
known n (Ok refusal) x h e = h ∙ sym e
known n (Err e) x h q = h.1 ∙ sym q

none : (b place : List ℕ) (n : ℕ) → b ≡ n ∷ place → refusal_from_number n ≡ None → ◌≡◌ {A = Option Answer} None (read_refused (0 ∷ b))
none b place n s e = rw (s, no_refusal n e) (search rules)

some :
    (b place : List ℕ) (n p : ℕ) (r : Refusal) → b ≡ n ∷ place → refusal_from_number n ≡ Some r → length place ≡ 8 → p ≡ from_le8 place →
    Some (refused (refusal_number r) p) ≡ read_refused (0 ∷ b)
some b place n p r s e l q = let w = some_refusal n r e in rw (s, l, w.0, w.1, q)

pub returns-in_err-refusal : goal.returns-in_err-refusal
returns-in_err-refusal c =
    let n = c.in_ok-number.number.now in
    let h = known n c.try_from.result None c.try_from.ensures (sym c.in_err-refusal.was ∙ c.ok.ensures.value) in
    ap any_answer c.from_residual-in_err-refusal.ensures
    ∙ none c.args.fields.now c.in_ok-number.place.now n c.in_ok-number.ensures.cases.0 h

pub returns : goal.returns
returns c =
    let n = c.in_ok-number.number.now in
    let r = c.in_ok-refusal.refusal in
    let h = known n c.try_from.result (Some r) c.try_from.ensures (sym c.in_ok-refusal.was ∙ c.ok.ensures.value) in
    let e = c.in_ok-number_alone.ensures in
    some c.args.fields.now c.in_ok-number.place.now n _ r c.in_ok-number.ensures.cases.0 h e.0 e.1
