use Rattle.machine.proofs.LayoutLaws.{areas_apart, checkpoints_fit, memory_fits}
use Rattle.machine.proofs.Replay.{replay_fits}
use Rattle.machine.proofs.layout_fits.Goals as goal

pub returns : goal.returns
returns c = record { areas = areas_apart; checkpoints = checkpoints_fit; memory = memory_fits; replay = replay_fits }
