use Rattle.std.proofs.Common.{rules, sym}
use Rattle.std.proofs.Output.{has_written_append, has_written_of_eq}
use Rattle.words.proofs.Rows.{each_more}
use Rattle.words.proofs.printing.RowDisplay.fmt.Goals as goal

pub loop-k-preserved : goal.loop-k-preserved
loop-k-preserved g c = λ plain.
    has_written_of_eq _ _ _ _ _ (sym (each_more c.args.self.now.byte c.loop-k._k))
    (has_written_append _ _ _ _ _ _ (c.loop-k.invariant plain) (search rules))
