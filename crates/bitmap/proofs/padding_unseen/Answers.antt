use Rattle.bitmap.proofs.Padded.{count_padded, free_padded, free_below, marked_padded, unmarked_padded, both_padded}
use Rattle.bitmap.proofs.padding_unseen.Goals as goal

pub returns : goal.returns
returns c = record {
  count = count_padded;
  free = free_padded;
  below = free_below;
  marked = marked_padded;
  unmarked = unmarked_padded;
  both = both_padded;
}
