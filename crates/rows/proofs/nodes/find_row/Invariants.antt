use Rattle.std.proofs.Common.{ℕ, ◌-◌, ◌<◌, ◌≤◌}
use Rattle.tables.specs.Lookup.{row_id}
use Rattle.rows.proofs.nodes.find_row.Given as goal

-- the ids before `low` are less, and those from `high` on are not
abbrev pub invariant-loop-low : goal.invariant-loop-low
invariant-loop-low l =
    (l.low ≤ l.high) × (l.high ≤ l.rows) × ((j : ℕ) → j < l.low → row_id l.nodes j < l.id)
    × ((j : ℕ) → l.high ≤ j → j < l.rows → l.id ≤ row_id l.nodes j)

abbrev pub decreases-loop-low : goal.decreases-loop-low
decreases-loop-low l = l.high - l.low
