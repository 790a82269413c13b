use Rattle.std.proofs.Common.{◌≡◌, ℕ, ◌≤◌, [], length, vec_items}
use Rattle.script.specs.Fields.{choices}
use Rattle.script.proofs.fields.choices.Given as goal

abbrev pub invariant-loop-left : goal.invariant-loop-left
invariant-loop-left l =
    (k : ℕ) × (length l.left ≤ k) × (choices k (vec_items l.all) l.left ≡ choices (length l.text) [] l.text)

abbrev pub decreases-loop-left : goal.decreases-loop-left
decreases-loop-left l = length l.left
