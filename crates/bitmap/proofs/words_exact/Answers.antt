use Rattle.bitmap.proofs.Exact.{words_padded, words_pinned, answers_exact, changes_exact, empty_exact}
use Rattle.bitmap.proofs.words_exact.Goals as goal

pub returns : goal.returns
returns c = record {
  padded = words_padded;
  pinned = words_pinned;
  answers = answers_exact;
  changes = changes_exact;
  empty = empty_exact;
}
