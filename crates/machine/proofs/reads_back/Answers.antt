use Rattle.machine.proofs.LayoutLaws.{decodes, loads}
use Rattle.machine.proofs.reads_back.Goals as goal

pub returns : goal.returns
returns c = record { memory = decodes; disk = loads }
