-- Each round takes a digit off, and no length has more than ten.
use Rattle.std.proofs.Common.{◌≡◌, ℕ, ◌+◌, ◌/◌, ◌%◌, ◌^◌, ◌<◌, ◌≤◌, List, [], ◌∷◌, ◌++◌, length, ap, sym, ◌∙◌, arith}
use Rattle.std.proofs.lemmas.List.{append_assoc, length-append}
use Rattle.codec.specs.Lengths.{digits}
use Rattle.codec.proofs.Digits.{digits_more, digits_some, digits_within}
use Rattle.encode.proofs.length.digits.Goals as goal

-- there is room for one more
room : (n left : ℕ) (done : List ℕ) → n < 2 ^ 64 → done ++ digits left ≡ digits n → length done < 10
room n left done f e =
    let w : length (digits n) ≤ 10 = digits_within 9 n (omega arith) in
    omega (arith, w, ap length e, length-append done (digits left), digits_some left)

more : (n left : ℕ) (done after : List ℕ) → 128 ≤ left → done ++ digits left ≡ digits n → after ≡ done ++ (128 + left % 128) ∷ [] → after ++ digits (left / 128) ≡ digits n
more n left done after l e a =
    rw a (append_assoc done ((128 + left % 128) ∷ []) (digits (left / 128))) ∙ ap (λ ds. done ++ ds) (sym (digits_more left l)) ∙ e

pub push-requires : goal.push-requires
push-requires c = (omega arith, room c.args.length c.loop-left.left c.loop-left.digits.items c.ranges.length.fits c.loop-left.invariant)

pub loop-left-preserved : goal.loop-left-preserved
loop-left-preserved c =
    more c.args.length c.loop-left.left c.loop-left.digits.items c.push.new.self.items c.loop-left-test.true c.loop-left.invariant c.push.ensures.items

pub push-requires-2 : goal.push-requires-2
push-requires-2 c = (omega arith, room c.args.length c.loop-left.left c.loop-left.digits.items c.ranges.length.fits c.loop-left.invariant)
