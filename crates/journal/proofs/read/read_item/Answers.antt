-- Fewer than two words.
use Rattle.std.proofs.Common.{arith}
use Rattle.journal.proofs.ItemsRead.{item_cut}
use Rattle.journal.proofs.read.read_item.Goals as goal

pub returns-in_err-kind-clause-item : goal.returns-in_err-kind-clause-item
returns-in_err-kind-clause-item c =
    rw c.from_residual.ensures (item_cut c.args.words.now (omega (arith, c.in_err-kind.ensures.cases)))
