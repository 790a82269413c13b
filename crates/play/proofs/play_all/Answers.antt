use Rattle.std.proofs.Common.{arith, false-eqb}
use Rattle.play.proofs.play_all.Goals as goal

pub loop-left-smaller : goal.loop-left-smaller
loop-left-smaller c = c.split_line.ensures.shorter (omega (arith, false-eqb _ 0 c.loop-left-test.ensures))
