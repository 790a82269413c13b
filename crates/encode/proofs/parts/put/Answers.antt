-- Each part stands after those before it, and there is room for all.
use Rattle.std.proofs.Common.{ap, length, take, arith}
use Rattle.std.proofs.lemmas.List.{length-append}
use Rattle.encode.proofs.Puts.{part_at, joined, one_more, fits, some_end, put_next, put_all}
use Rattle.encode.proofs.parts.put.Goals as goal

pub slice_bounds-copy_from_slice-end : goal.slice_bounds-copy_from_slice-end
slice_bounds-copy_from_slice-end c =
    let f = fits c.args.parts.now c.loop-part.part-index c.loop-part-test.true in
    let s = some_end _ _ c.in_ok-size.size c.in_ok-size.ensures in
    omega (arith, f, s.0, s.1, c.loop-part.auto.out, c.loop-part.invariant.end)

pub loop-part-preserved : goal.loop-part-preserved
loop-part-preserved c =
    let i = c.loop-part.part-index in
    record {
      written = put_next c.args.parts.now i c.loop-part.at c.args.out.now c.loop-part.out c.copy_from_slice.new.self c.loop-part-test.true
          c.loop-part.invariant.written c.loop-part.invariant.end c.copy_from_slice.ensures.after;
      end = omega (
        arith,
        ap length (one_more c.args.parts.now i c.loop-part-test.true),
        length-append (joined (take i c.args.parts.now)) (part_at c.args.parts.now i),
        c.loop-part.invariant.end,
      );
    }

pub returns : goal.returns
returns c =
    let s = some_end _ _ c.in_ok-size.size c.in_ok-size.ensures in
    put_all c.args.parts.now c.loop-part.part-index c.in_ok-size.size c.args.out.now c.loop-part.out c.loop-part-test.false s.0 (omega arith)
    c.loop-part.invariant.written
