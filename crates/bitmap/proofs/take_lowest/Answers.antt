-- There is a clear bit while fewer are set than there are, and a turn takes the lowest one.
use Rattle.std.proofs.Common.{◌≡◌, suc, ◌+◌, ◌-◌, ◌<◌, ◌++◌, length, take, refl, sym, ap, ◌∙◌, append-nil, arith}
use Rattle.std.proofs.lemmas.List.{take_all}
use Rattle.blocks.specs.Bits.{bits_of}
use Rattle.machine.specs.State.{free, marked}
use Rattle.bitmap.specs.Bitmap.{lowest_clear}
use Rattle.bitmap.proofs.Maps.{length_bits}
use Rattle.bitmap.proofs.Lowest.{lowest_is, lowest_some, some_clear, marked_step, taken_step, lowest_step, count_step}
use Rattle.bitmap.proofs.take_lowest.Goals as goal

pub unwrap-k-requires : goal.unwrap-k-requires
unwrap-k-requires c =
    let l = length_bits c.loop-slot.map in
    let low = some_clear (bits_of c.loop-slot.map) (omega arith) in
    rw (c.lowest_from.ensures, lowest_is (bits_of c.loop-slot.map) low) refl

pub set_bit-requires : goal.set_bit-requires
set_bit-requires c =
    let l = length_bits c.loop-slot.map in
    let low = some_clear (bits_of c.loop-slot.map) (omega arith) in
    let at = lowest_some (bits_of c.loop-slot.map) c.unwrap-k.result low (sym c.lowest_from.ensures ∙ c.unwrap-k.ensures) in
    omega arith

pub loop-slot-preserved : goal.loop-slot-preserved
loop-slot-preserved c =
    let bs = bits_of c.loop-slot.map in
    let cs = bits_of c.set_bit.new.map in
    let n = length c.args.out.now in
    let i = c.loop-slot.slot-index in
    let k = c.unwrap-k.result in
    let m = n - (i + 1) in
    let l = length_bits c.loop-slot.map in
    let low : lowest_clear bs < length bs = some_clear bs (omega arith) in
    let left : n - i ≡ suc m = omega arith in
    let at : k ≡ lowest_clear bs = lowest_some bs k low (sym c.lowest_from.ensures ∙ c.unwrap-k.ensures) in
    let next = c.set_bit.ensures in
    let rises = lowest_step m k bs cs low at next in
    let fewer = count_step m k bs cs low at next in (
      sym (taken_step m k bs cs low at next c.loop-slot.out i (omega arith))
          ∙ (ap (λ j. take i c.loop-slot.out ++ free j bs 0) (sym left) ∙ c.loop-slot.invariant.0),
      sym (marked_step m k bs cs low at next) ∙ (ap (λ j. marked (free j bs 0) bs) (sym left) ∙ c.loop-slot.invariant.1),
      omega arith,
      omega arith,
    )

pub returns : goal.returns
unfolding free marked
returns c =
    let bs = bits_of c.loop-slot.map in
    let n = length c.args.out.now in
    let i = c.loop-slot.slot-index in
    let out = c.loop-slot.out in
    let none : n - i ≡ 0 = omega arith in
    record {
      taken =
          sym (ap (λ t. t ++ free 0 bs 0) (take_all i out (omega arith)) ∙ append-nil out)
          ∙ (ap (λ j. take i out ++ free j bs 0) (sym none) ∙ c.loop-slot.invariant.0);
      bits = ap (λ j. marked (free j bs 0) bs) (sym none) ∙ c.loop-slot.invariant.1;
    }
