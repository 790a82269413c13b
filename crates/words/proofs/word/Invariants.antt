use Rattle.std.proofs.Common.{◌≡◌, length, vec_items}
use Rattle.words.specs.Words.{word_on, read_word}
use Rattle.words.proofs.word.Given as goal

abbrev pub invariant-loop-b : goal.invariant-loop-b
invariant-loop-b l = word_on l.state (vec_items l.bytes) l.left ≡ read_word l.text

abbrev pub decreases-loop-b : goal.decreases-loop-b
decreases-loop-b l = length l.left
