use Rattle.std.proofs.Common.{length, ap, arith}
use Rattle.bitmap.proofs.Shared.{few_in, length_from, shared_end}
use Rattle.bitmap.proofs.count_shared.Goals as goal

pub overflow_cast-shared : goal.overflow_cast-shared
overflow_cast-shared c =
    let few = few_in c.args.a.now c.args.b.now c.loop-i.i c.loop-i-test.true c.requires.alike
    (omega arith) (omega arith) in
    omega arith

pub overflow_add-shared : goal.overflow_add-shared
overflow_add-shared c =
    let few = few_in c.args.a.now c.args.b.now c.loop-i.i c.loop-i-test.true c.requires.alike
    (omega arith) (omega arith) in
    omega arith

pub loop-i-preserved : goal.loop-i-preserved
loop-i-preserved c =
    let few = few_in c.args.a.now c.args.b.now c.loop-i.i c.loop-i-test.true c.requires.alike
    (omega arith) (omega arith) in
    let more = length_from c.args.a.now c.args.b.now c.loop-i.i c.loop-i-test.true c.requires.alike
    (omega arith) (omega arith) in
    (omega arith, omega arith)

pub returns : goal.returns
returns c =
    let end = ap length (shared_end c.args.a.now c.args.b.now c.loop-i.i c.loop-i-test.false) in
    omega arith
