-- How many nodes there are, and how many older trees: two parts of law 4.
use Rattle.std.proofs.Common.{ℕ, ◌≤◌, List, length, le_trans, arith, length-append}
use Rattle.model.specs.Tree.{Body, Node, without_node, with_body}
use Rattle.model.specs.Calls.{Call}
use Rattle.model.specs.Refusals.{Limits}
use Rattle.model.specs.Fs.{Fs}
use Rattle.model.specs.World.{Happening}
use Rattle.model.specs.Promise.{Explains}
use Rattle.model_facts.proofs.Nodes.{length_with, length_without}
use Rattle.laws.proofs.Changes.{grown, fewer, moved_free, moved_over}
use Rattle.laws.proofs.Steps.{Step, still, changes, wrote, file_synced, sized, synced, ever}
use Rattle.laws.proofs.Each.{ever_each}

length_removed : (i d : ℕ) (b : Body) (ts : List Node) → length (without_node i (with_body d b ts)) ≤ length ts
length_removed i d b ts = omega (arith, length_without i (with_body d b ts), length_with d b ts)

pub few_wait : (l : Limits) (hs : List Happening) (s : Fs) → Explains l hs s → length s.older ≤ l.pending
few_wait l = ever l (λ s. length s.older ≤ l.pending) (omega arith) next (λ s n g h. omega arith)
  where
    next : (s t : Fs) (c : Call) → Step l s c t → length s.older ≤ l.pending → length t.older ≤ l.pending
    next s t _ still h = h
    next s t _ (changes u w) h = omega arith
    next s t _ (wrote i p b w) h = h
    next s t _ (file_synced i) h = h
    next s t _ (sized i n x y w) h = omega arith
    next s t _ synced h = omega arith

pub few_nodes : (l : Limits) → 1 ≤ l.nodes_most → (hs : List Happening) (s : Fs) → Explains l hs s →
    length s.tree.nodes ≤ l.nodes_most
few_nodes l one hs s r = ever_each l (λ _ t. length t.nodes ≤ l.nodes_most) (λ _ _ _ _ h. h) one next hs s r 0
  where
    next : (s t : Fs) (c : Call) → Step l s c t → length s.tree.nodes ≤ l.nodes_most → length t.tree.nodes ≤ l.nodes_most
    next s t _ still h = h
    next s t _ (changes (grown d n b p q x y z) w) h = simp (length_with, length-append) (omega arith)
    next s t _ (changes (fewer d n i is x y z) w) h = le_trans (length_removed i d _ _) h
    next s t _ (changes (moved_free d n e m i is o x y p q) w) h = simp length_with h
    next s t _ (changes (moved_over d n e m i is j js o x y p q r z) w) h = simp length_with (le_trans (length_removed j e _ _) h)
    next s t _ (wrote i p b w) h = h
    next s t _ (file_synced i) h = h
    next s t _ (sized i n x y w) h = simp length_with h
    next s t _ synced h = h
