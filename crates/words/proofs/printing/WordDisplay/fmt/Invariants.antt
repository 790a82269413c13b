use Rattle.std.proofs.Common.{◌≡◌, ℕ, List, ◌++◌, length}
use Rattle.std.specs.Fmt.{HasWritten, IsPlainFormatter}
use Rattle.words.specs.Printed.{rows}
use Rattle.words.proofs.printing.WordDisplay.fmt.Given as goal

abbrev pub invariant-loop-row : goal.invariant-loop-row
invariant-loop-row g l =
    IsPlainFormatter l.initial.f → (done : List ℕ) × HasWritten g.W.Write.write_str_gives l.initial.f done l.f
    × (done ++ rows l.left ≡ rows l.self.0.now)

abbrev pub decreases-loop-row : goal.decreases-loop-row
decreases-loop-row g l = length l.left
