use Rattle.codec.proofs.Place.{longest_front}
use Rattle.codec.proofs.garbled_at_longest_front.Goals as goal

pub returns : goal.returns
returns c = longest_front
