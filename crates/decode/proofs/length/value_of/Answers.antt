-- Each round takes a digit more, from the last down; digits that are left only add to the value.
use Rattle.std.proofs.Common.{◌≡◌, ℕ, ◌+◌, ◌-◌, ◌*◌, ◌%◌, ◌<◌, ◌≤◌, List, length, get_or, drop, reverse, None, Option, sym, ◌∙◌, arith, rules}
use Rattle.std.proofs.lemmas.Bool.{lt-ltb}
use Rattle.std.proofs.lemmas.Grind.{get_or_default_zero}
use Rattle.std.proofs.lemmas.List.{get_or-reverse, length-reverse, length_push}
use Rattle.std.proofs.lemmas.Iterator.Adapters.{YieldsList-from_rev_slice}
use Rattle.std.proofs.lemmas.Iterator.Consumers.{YieldsList-turn}
use Rattle.codec.specs.Lengths.{value, up_to}
use Rattle.codec.proofs.Digits.{value-drop, value-step}
use Rattle.decode.proofs.length.value_of.Goals as goal

-- what the digit d adds, after n that were passed
step :
    (ds : List ℕ) (n d v : ℕ) → (n < length (reverse ds)) × (d ≡ get_or (reverse ds) n d) → v ≡ value (drop (length ds - n) ds) →
    (d % 128 + 128 * v ≡ value (drop (length ds - (n + 1)) ds)) × (d % 128 + 128 * v ≤ value ds)
step ds n d v t p =
    let l : n < length ds = omega (arith, t.0, length-reverse ds) in
    let i : length ds - 1 - n ≡ length ds - (n + 1) = omega arith in
    let j : length ds - n - 1 ≡ length ds - (n + 1) = omega arith in
    let w : length ds - (n + 1) < length ds = omega arith in
    let g : d ≡ get_or ds (length ds - (n + 1)) 0 =
    t.1 ∙ get_or-reverse ds n d l ∙ rw i (get_or_default_zero ds (length ds - (n + 1)) d w) in
    let m : value (drop (length ds - (n + 1)) ds) ≡ get_or ds (length ds - (n + 1)) 0 % 128 + 128 * value (drop (length ds - n) ds) =
    rw j at (value-step ds (length ds - n) (omega arith) (omega arith)) in
    let e : d % 128 + 128 * v ≡ value (drop (length ds - (n + 1)) ds) = rw (m, sym g, p) in
    (e, omega (arith, e, value-drop (length ds - (n + 1)) ds))

too_much : (most n : ℕ) → most < n → ◌≡◌ {A = Option ℕ} None (up_to most n)
too_much most n l = rw (lt-ltb most n l)

pub returns-in_err-checked_mul : goal.returns-in_err-checked_mul
returns-in_err-checked_mul c =
    let t = YieldsList-turn (YieldsList-from_rev_slice c.args.digits.now cc) c.loop-digit.yielded _ c.loop-digit.yielded_by _ _ c.in-Some.digit c.in-Some.is c.next.ensures.steps in
    let s = step _ _ _ c.loop-digit.value t c.loop-digit.invariant.passed in
    c.from_residual.ensures ∙ too_much _ _ (omega (arith, c.in_err-checked_mul.ensures))

pub returns-in_err-value : goal.returns-in_err-value
returns-in_err-value c =
    let t = YieldsList-turn (YieldsList-from_rev_slice c.args.digits.now cc) c.loop-digit.yielded _ c.loop-digit.yielded_by _ _ c.in-Some.digit c.in-Some.is c.next.ensures.steps in
    let s = step _ _ _ c.loop-digit.value t c.loop-digit.invariant.passed in
    c.from_residual-in_err-value.ensures ∙ too_much _ _ (omega (arith, c.in_err-value.ensures, c.from.ensures))

pub loop-digit-preserved : goal.loop-digit-preserved
loop-digit-preserved c =
    let t = YieldsList-turn (YieldsList-from_rev_slice c.args.digits.now cc) c.loop-digit.yielded _ c.loop-digit.yielded_by _ _ c.in-Some.digit c.in-Some.is c.next.ensures.steps in
    let s = step _ _ _ c.loop-digit.value t c.loop-digit.invariant.passed in
    record {
      next = search rules;
      finite = search rules;
      passed = rw (length_push c.loop-digit.yielded c.in-Some.digit)
          (omega (arith, c.in_ok-value.ensures, c.in_ok-checked_mul.ensures, c.from.ensures));
    }
