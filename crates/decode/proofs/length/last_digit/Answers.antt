-- As many digits have 128 added as stand before the first that is less.
use Rattle.std.proofs.Common.{◌≡◌, ℕ, suc, ◌+◌, ◌<◌, ◌≤◌, ltb, List, length, Option, Some, None, MatchOption, sym, refl, ◌∙◌, inl, inr, arith, rules, tests}
use Rattle.std.proofs.lemmas.Bool.{lt-ltb, le-ltb, cases_lt}
use Rattle.std.proofs.lemmas.Iterator.{YieldsList-from_slice}
use Rattle.std.proofs.lemmas.Iterator.Search.{position_from_yields_List}
use Rattle.std.proofs.lemmas.List.Recursion.{is_position_or_len}
use Rattle.std.specs.List.{position}
use Rattle.codec.specs.Lengths.{high}
use Rattle.decode.proofs.length.last_digit.Goals as goal

last : (bytes : List ℕ) (r : Option ℕ) → r ≡ position (λ b. ltb b 128) bytes → MatchOption r (length bytes ≤ high bytes) (λ i. (i ≡ high bytes) × (i < length bytes))
last bytes r e =
    let h = is_position_or_len high (λ b. ltb b 128) refl (λ x xs. let q : suc (high xs) ≡ 1 + high xs = omega arith in rw q) bytes in
    elim (cases_lt (high bytes) (length bytes)) [
      | inl l ↦ let s : r ≡ Some (high bytes) = e ∙ rw (sym h, lt-ltb (high bytes) (length bytes) l) in rw s (refl, l)
      | inr l ↦ let s : r ≡ None = e ∙ rw (sym h, le-ltb (high bytes) (length bytes) l) in rw s l
    ]

pub returns : goal.returns
returns c =
    last c.args.bytes.now c.position.result
    (position_from_yields_List (λ b. ltb b 128) _ _ c.position.result c.position.ensures.ran (YieldsList-from_slice c.args.bytes.now cc) (λ x b q k. search (rules, tests)))
