use Rattle.blocks.proofs.Words.{name_back}
use Rattle.blocks.proofs.Blocks.{table_back, dumped}
use Rattle.blocks.proofs.Bits.{bits_back}
use Rattle.blocks.proofs.reads_back.Goals as goal

pub returns : goal.returns
returns c = record { strings = name_back; tables = table_back; blocks = dumped; bits = bits_back }
