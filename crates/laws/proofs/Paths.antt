-- Being in a directory at whatever depth: from directory 0 down to a node, and from any node down to another.

-- how often an id is among the entries of a directory
use Rattle.std.proofs.Common.{◌≡◌, ℕ, suc, ◌+◌, ◌<◌, List, arith}
use Rattle.model.specs.Tree.{Node, find_node, entries}
use Rattle.laws.proofs.Sound.{with_id}
use Rattle.laws.proofs.Entries.{of_id}

abbrev pub in_dir : List Node → ℕ → ℕ → ℕ
in_dir ts d i = of_id i (entries (find_node d ts))

-- a node is reached from directory 0
pub data Reach (ts : List Node) : ℕ → Type 0 where
  root : Reach ts 0
  below : (d i : ℕ) → Reach ts d → 0 < in_dir ts d i → Reach ts i

-- node e is node i, or in it at some depth
pub data Descent (ts : List Node) (e : ℕ) : ℕ → Type 0 where
  stays : Descent ts e e
  down : (i x : ℕ) → 0 < in_dir ts i x → Descent ts e x → Descent ts e i

abbrev pub Reached : List Node → Type 0
Reached ts = (x : ℕ) → 0 < with_id x ts → Reach ts x

pub descent_below : (ts : List Node) (d e i : ℕ) → Descent ts d i → 0 < in_dir ts d e → Descent ts e i
descent_below ts d e _ stays h = down d e h stays
descent_below ts d e _ (down i x p r) h = down i x p (descent_below ts d e x r h)

-- how many steps down
unfoldable pub depth : {ts : List Node} {x : ℕ} → Reach ts x → ℕ
depth root = 0
depth (below d i r p) = suc (depth r)

unfoldable pub levels : {ts : List Node} {e i : ℕ} → Descent ts e i → ℕ
levels stays = 0
levels (down i x p r) = suc (levels r)

-- a node in a node that is reached is reached, so many steps further down
pub reach_by : {ts : List Node} {e i : ℕ} (r : Reach ts i) (d : Descent ts e i) → (q : Reach ts e) × (depth q ≡ levels d + depth r)
unfolding depth levels
reach_by r stays = (r, omega arith)
reach_by r (down i x p d) = let (q, h) = reach_by (below i x r p) d in (q, omega arith)
