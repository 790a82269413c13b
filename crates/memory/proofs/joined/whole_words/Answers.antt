use Rattle.memory.proofs.Whole.{whole_joins, whole_splits, lengths_are}
use Rattle.memory.proofs.joined.whole_words.Goals as goal

pub returns : goal.returns
returns c = record { joins = whole_joins; splits = whole_splits; lengths = lengths_are }
