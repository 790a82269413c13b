-- The item has as many words as was counted, so it does not fit.
use Rattle.std.proofs.Common.{sym, arith}
use Rattle.std.proofs.lemmas.Bool.{lt-leb}
use Rattle.calls.specs.Meaning.{call_of}
use Rattle.journal.proofs.ItemWords.{length_item}
use Rattle.journal.proofs.write.append.Goals as goal

pub returns-then-used-size-gt-ROOM-clause-fits : goal.returns-then-used-size-gt-ROOM-clause-fits
returns-then-used-size-gt-ROOM-clause-fits c =
    let l = length_item c.args.first (call_of c.args.call) in
    sym (lt-leb _ 496 (omega arith))
