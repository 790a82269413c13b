-- What the code's limits stand for. Definitions only.
use Rattle.std.specs.Prelude.{ℕ, ◌≡◌, ◌<◌, Bool, true}
use Rattle.model.specs.Promise.{thin, all}
use Rattle.model.specs.Refusals as refusals
use Rattle.calls.specs.declared.Limits.{Limits}
use Rattle.steps.specs.declared.stage.Stage.{Stage}
use Rattle.steps.specs.declared.stage.Stage.TheVariants.{First, Whole}

abbrev pub stage_calls : Stage → ℕ → Bool
stage_calls First = thin
stage_calls Whole = all

abbrev pub limits_of : Stage → Limits → refusals.Limits
limits_of s l = record { calls_can = stage_calls s; room = l.cells; nodes_most = l.nodes; pending = l.older }

-- a number that no call has keeps no stage from anything: bytes with it are told before
abbrev pub OthersPass : Type 0
OthersPass = (s : Stage) (n : ℕ) → 11 < n → stage_calls s n ≡ true
