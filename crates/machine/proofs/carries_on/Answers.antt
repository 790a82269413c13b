use Rattle.machine.proofs.Replay.{carried_redo}
use Rattle.machine.proofs.Always.{carried_next, carried_woken}
use Rattle.machine.proofs.carries_on.Goals as goal

pub returns : goal.returns
returns c = record { call = carried_next; replay = carried_redo; start = carried_woken }
