use Rattle.bitmap.proofs.Lowest.{free_first, lowest_rises, count_rises}
use Rattle.bitmap.proofs.lowest_is_free.Goals as goal

pub returns : goal.returns
returns c = record { first = free_first; rises = lowest_rises; count = count_rises }
