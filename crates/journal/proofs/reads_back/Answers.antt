-- A law of the journal's words.
use Rattle.machine.proofs.JournalWords.{item_read}
use Rattle.journal.proofs.reads_back.Goals as goal

pub returns : goal.returns
returns c = item_read
