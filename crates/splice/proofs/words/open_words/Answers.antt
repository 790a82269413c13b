-- The turned part is the table opened there.
use Rattle.std.proofs.Common.{refl}
use Rattle.splice.proofs.Splices.{rotated_in}
use Rattle.splice.proofs.words.open_words.Goals as goal

pub returns : goal.returns
returns c = rotated_in _ _ _ _ _ _ c.requires.place c.requires.room refl c.rotate_right.ensures.after
