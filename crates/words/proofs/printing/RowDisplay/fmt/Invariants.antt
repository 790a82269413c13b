use Rattle.words.specs.Printed.{print_each}
use Rattle.std.specs.Fmt.{HasWritten, IsPlainFormatter}
use Rattle.words.proofs.printing.RowDisplay.fmt.Given as goal

abbrev pub invariant-loop-k : goal.invariant-loop-k
invariant-loop-k g l =
    IsPlainFormatter l.initial.f → HasWritten g.W.Write.write_str_gives l.initial.f (print_each l.self.byte l._k) l.f
