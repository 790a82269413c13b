-- What each call costs in acts, by kind; and that a journal of 22 changes has a place.
use Rattle.std.proofs.Common.{◌≡◌, ℕ, suc, ◌+◌, Bool, true, false, cond, not, ◌&&◌, eqb, List, [], ◌∷◌, ◌++◌, length, refl, ap, ◌∙◌, append_assoc, arith}
use Rattle.std.proofs.lemmas.Bool.{le-leb}
use Rattle.model.specs.Tree.{some_of, first_of, body_of, cells, named}
use Rattle.model.specs.Calls.{Block, Call, find, make_file, make_dir, remove, rename, list, size, read, write, resize, sync_file}
use Rattle.model.specs.Calls.{sync_tree, garbled}
use Rattle.model.specs.Refusals.{Limits}
use Rattle.model.specs.World.{Act}
use Rattle.machine.specs.State.{counts_of, State, nothing, push_it, kind}
use Rattle.machine.specs.Program.{area_start, puts, zeros, unwritten, committed, by_journal, by_checkpoint, acts_by, refusal_of}
use Rattle.machine.specs.Journal.{journal_words}
use Rattle.machine.specs.Layout.{state_from, checkpoint_blocks, layout}
use Rattle.machine.specs.Bounds.{Cost, none, counted, checkpoint_length, call_cost, ActsCounted, ChangesFit}
use Rattle.machine.proofs.JournalWords.{journal_long}
use Rattle.machine.proofs.LayoutLaws.{length-checkpoint}

-- so many puts more, before some acts
abbrev more_puts : ℕ → Cost → Cost
more_puts n c = record { puts = n + c.puts; keeps = c.keeps }

cost_same : (n m k : ℕ) → n ≡ m → ◌≡◌ {A = Cost} (record { puts = n; keeps = k }) (record { puts = m; keeps = k })
cost_same n m k e = rw e

zeros_counted : (ks : List ℕ) (xs : List Act) → counted (zeros ks ++ xs) ≡ more_puts (length ks) (counted xs)
unfolding zeros counted
zeros_counted [] xs = cost_same (counted xs).puts (0 + (counted xs).puts) (counted xs).keeps (omega arith)
zeros_counted (k ∷ ks) xs =
    let ih = zeros_counted ks xs in
    rw ih (cost_same (suc (length ks + (counted xs).puts)) (suc (length ks) + (counted xs).puts) (counted xs).keeps (omega arith))

puts_counted : (k : ℕ) (bs : List Block) (xs : List Act) → counted (puts k bs ++ xs) ≡ more_puts (length bs) (counted xs)
unfolding puts counted
puts_counted k [] xs = cost_same (counted xs).puts (0 + (counted xs).puts) (counted xs).keeps (omega arith)
puts_counted k (b ∷ bs) xs =
    let ih = puts_counted (suc k) bs xs in
    rw ih (cost_same (suc (length bs + (counted xs).puts)) (suc (length bs) + (counted xs).puts) (counted xs).keeps (omega arith))

commit_counted : (b : Block) → counted (committed b) ≡ record { puts = 1; keeps = 2 }
unfolding counted
commit_counted b = refl

-- a tree sync, in its two ways
module _ (l : Limits) (st : State) where
  abbrev zs : List ℕ
  zs = unwritten l st.fresh st.tree

  journal_counted : counted (by_journal layout l st.live st.base st.journal st.fresh st.tree) ≡ record {
    puts =
        length zs + 0 + 1;
    keeps = 2;
  }
  journal_counted =
      let b : Block = layout.superblock l st.live st.base st.journal in
      zeros_counted zs (committed b)
      ∙ (ap (more_puts (length zs)) (commit_counted b) ∙ cost_same (length zs + 1) (length zs + 0 + 1) 2 (omega arith))

  checkpoint_counted : (other : Bool) →
      counted (by_checkpoint layout l other st.fresh st.tree) ≡ record {
        puts =
            length zs + checkpoint_length (counts_of st.tree) + 1;
        keeps = 2;
      }
  checkpoint_counted other =
      let bs : List Block = checkpoint_blocks st.tree in
      let k : ℕ = area_start layout l other in
      let b : Block = layout.superblock l other (counts_of st.tree) [] in
      let e = length-checkpoint st.tree in
      ap counted (append_assoc (zeros zs) (puts k bs) (committed b))
      ∙ (zeros_counted zs (puts k bs ++ committed b)
      ∙ (ap (more_puts (length zs)) (puts_counted k bs (committed b) ∙ ap (more_puts (length bs)) (commit_counted b))
      ∙ cost_same (length zs + (length bs + 1)) (length zs + checkpoint_length (counts_of st.tree) + 1) 2 (omega arith)))

  sync_counted : (none-older over : Bool) → st.over ≡ over →
      counted (cond none-older [] (cond over (by_checkpoint layout l (not st.live) st.fresh st.tree)
      (by_journal layout l st.live st.base st.journal st.fresh st.tree)))
      ≡ cond none-older none (record { puts = length zs + cond over (checkpoint_length (counts_of st.tree)) 0 + 1; keeps = 2 })
  unfolding counted
  sync_counted true over e = refl
  sync_counted false true e = checkpoint_counted (not st.live)
  sync_counted false false e = journal_counted

-- a call that may be a new tree or nothing puts nothing
quiet : (l : Limits) (st : State) (b : Bool) → counted (acts_by layout l st (cond b nothing push_it)) ≡ none
unfolding acts_by counted
quiet l st true = refl
quiet l st false = refl

by_call : (l : Limits) (st : State) (c : Call) → counted (acts_by layout l st (kind st.tree c)) ≡ call_cost l st c
unfolding acts_by kind counted call_cost
by_call l st (find d n) = refl
by_call l st (make_file d n) = refl
by_call l st (make_dir d n) = refl
by_call l st (remove d n) = refl
by_call l st (rename d n e m) =
    quiet l st (some_of (named st.tree e m) && eqb (first_of (named st.tree d n)) (first_of (named st.tree e m)))
by_call l st (list d k) = refl
by_call l st (size i) = refl
by_call l st (read i o) = refl
by_call l st (write i o b) = refl
by_call l st (resize i n) = quiet l st (eqb n (length (cells (body_of st.tree i))))
by_call l st (sync_file i) = refl
by_call l st sync_tree = sync_counted l st (eqb st.older 0) st.over refl
by_call l st (garbled n) = refl

if_counted : (b : Bool) (xs : List Act) (c : Cost) → counted xs ≡ c → counted (cond b xs []) ≡ cond b c none
unfolding counted
if_counted true xs c e = e
if_counted false xs c e = refl

pub acts_counted : ActsCounted
acts_counted l mem bs c =
    let st : State = state_from l mem in
    if_counted (eqb (refusal_of l st c) 0) (acts_by layout l st (kind st.tree c)) (call_cost l st c) (by_call l st c)

pub changes_fit : ChangesFit
changes_fit l js ok few = let a = journal_long js ok in le-leb (length (journal_words js)) 496 (omega arith)
