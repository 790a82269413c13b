-- Law 8: what is refused changes nothing; and what is not refused changes what the call says.
use Rattle.std.proofs.Common.{◌≡◌, arith}
use Rattle.std.proofs.lemmas.Bool.{eq-eqb, ne_eqb, cond-true, cond-false}
use Rattle.model.specs.Calls.{Call}
use Rattle.model.specs.Refusals.{Limits}
use Rattle.model.specs.Fs.{Fs, turned, changed, after}
use Rattle.model.specs.Laws.{TurnedAway}

pub turned_away : TurnedAway
unfolding TurnedAway
turned_away l s c h = cond-false _ _ _ (ne_eqb (turned l s c) 0 (λ e. omega arith))

pub done_since : (l : Limits) (s : Fs) (c : Call) → turned l s c ≡ 0 → after l s c ≡ changed s c
done_since l s c h = cond-true _ _ _ (eq-eqb (turned l s c) 0 h)
