use Rattle.codec.proofs.Carried.{garbled_no_call}
use Rattle.codec.proofs.garbled_is_no_call.Goals as goal

pub returns : goal.returns
returns c = garbled_no_call
