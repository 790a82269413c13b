use Rattle.std.proofs.Common.{◌≡◌, ℕ, ◌-◌, ◌*◌, drop}
use Rattle.tables.specs.Edits.{shifted}
use Rattle.splice.specs.Calls.{Computes}
use Rattle.splice.proofs.sums.change_sums.Given as goal

-- what is left gives the whole, and is as it was
abbrev pub invariant-loop-row : goal.invariant-loop-row
invariant-loop-row g l =
    ((e d : ℕ → ℕ) → Computes (goal.F-post g l.entries) e → Computes (goal.G-post g l.cells) d →
    shifted e d (l.row-end - l.row) l.row l.sums ≡ shifted e d l.rows l.from_row l.initial.sums)
    × (drop (2 * l.row) l.sums ≡ drop (2 * l.row) l.initial.sums)
