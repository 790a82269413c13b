-- A PLAYER THAT STANDS AS BEFORE, whatever the line was.
use Rattle.std.proofs.Common.{ℕ, is_ok, IsErrAnd, Ok, Err, Result, refl}
use Rattle.script.specs.Lines.{Line}
use Rattle.player.specs.declared.Player.{Player}
use Rattle.player.specs.Played.{StandsFor}

pub as_before : {A E : Type 0} (r : Result A E) (Q : E → Type 0) → IsErrAnd r Q → (p : Player) (m : Result Line ℕ) →
    StandsFor (is_ok r) p p m
as_before (Ok x) Q h p m = absurd h
as_before (Err e) Q h p (Ok l) = (refl, refl)
as_before (Err e) Q h p (Err k) = (refl, refl)
