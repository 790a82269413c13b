use Rattle.std.proofs.Common.{◌≡◌, ◌+◌, ◌-◌, drop}
use Rattle.model.specs.Tree.{Tree, body_of, entries, holds, any_holds}
use Rattle.model.specs.Refusals.{Limits}
use Rattle.lookup.specs.Views.{words, Sound}
use Rattle.lookup.proofs.tree.Tree.+inside.Given as goal

abbrev pub decreases-inside : goal.decreases-inside
decreases-inside l = l.steps

-- the entries that are left decide it
abbrev pub invariant-loop-k : goal.invariant-loop-k
invariant-loop-k l =
    (m : Limits) (t : Tree) → Sound m (words l.self.view) t →
    any_holds (l.steps - (l.k + 1)) t (drop l.k (entries (body_of t l.outer))) l.inner ≡ holds l.steps t l.outer
    l.inner
