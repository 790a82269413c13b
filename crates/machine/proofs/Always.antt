-- What the layout can carry it carries always: after each call and each start, and so whenever nothing is under way; and then
-- the disk has what a start reads.
use Rattle.std.proofs.Common.{◌≡◌, ℕ, ◌+◌, Bool, true, false, cond, not, eqb, List, [], map, get_or, sym, refl, ap, ◌∙◌, subst, zero-le, zero-add, length-set}
use lib.ListN.{length-replicate}
use Rattle.std.proofs.lemmas.Bool.{and_parts, cond_both, eqb-true}
use Rattle.model.specs.Tree.{Tree, all_cells}
use Rattle.model.specs.Calls.{Block, Call, readable}
use Rattle.model.specs.Refusals.{Limits}
use Rattle.model.specs.Fs.{Cell, Fs, is_in}
use Rattle.model.specs.World.{Disk, seen, whole_disk}
use Rattle.model.specs.Promise.{under_readable}
use Rattle.machine.specs.State.{Sized, Item, Counts, counts_of, State, Core, Kind, nothing, push_it, write_it, keep_it, sync_it, kind}
use Rattle.machine.specs.State.{count_set, free, more, synced_core, replay}
use Rattle.machine.specs.Program.{longer, has_place, rested, next_by, refusal_of, wakes, area_start}
use Rattle.machine.specs.Fits.{Fits, ok_journal, Carries}
use Rattle.machine.specs.Layout.{layout}
use Rattle.machine.specs.Kept.{Carried, CoreCarries, CarriedNext, CarriedWoken, AlwaysCarried, Written, AlwaysWritten}
use Rattle.machine.proofs.Counting.{length_marked, have_marks}
use Rattle.machine.proofs.Invariant.{at, held_cells, Idle, SomeIdle}
use Rattle.machine.proofs.Lists.{in_map, of_map}
use Rattle.machine.proofs.Disks.{get_or-seen, length_seen}
use Rattle.machine.proofs.Renaming.{all_cells_ren}
use Rattle.machine.proofs.JournalCalls.{ok_next}
use Rattle.machine.proofs.Replay.{carried_synced, carried_step, replay_fits}
use Rattle.machine.proofs.Writes.{tree_held}
use Rattle.machine.proofs.Push.{ok-append}
use Rattle.machine.proofs.Histories.{held_long, older_few, Now, turn}
use Rattle.machine.proofs.Calls.{good}
use Rattle.machine.proofs.LayoutLaws.{layout_laws}
use Rattle.machine.proofs.Whole.{whole_seen, whole_always}

-- a tree that is synced
carried_rested : (l : Limits) (live : Bool) (base : Counts) (js : List Item) (t : Tree) → Fits l t → layout.fits l js ≡ true →
    ok_journal js ≡ true → Carried l (rested l live base js t)
carried_rested l live base js t f jf jo =
    let c = carried_synced l t f in
    record {
      carries = record {
        tree_fits = f;
        few_older = zero-le;
        held_long = c.held_long;
        fresh_long = length-replicate l.room false;
        journal_fits = jf;
        journal_ok = jo;
      };
      own_held = c.own_held;
    }

pub carried_woken : CarriedWoken
carried_woken l r gl f jf jo =
    carried_rested l r.live (counts_of r.base) r.journal (replay l (synced_core l r.base) r.journal).tree
    (replay_fits l r.base r.journal gl f jo) jf jo

-- a call, by its kind
module _ (l : Limits) (gl : Sized l) (st : State) (a : Carried l st) (c : Call) (rd : readable c ≡ true)
    (goes : refusal_of l st c ≡ 0) where
  abbrev k : Carries layout.fits l st
  k = a.carries

  abbrev core : Core
  core = record { tree = st.tree; older = st.older; held = st.held }

  core_carried : CoreCarries l core
  core_carried =
      record { tree_fits = k.tree_fits; few_older = k.few_older; held_long = k.held_long; own_held = a.own_held }

  -- the journal has one item more where that has a place
  journal_next : kind st.tree c ≡ push_it →
      let js : List Item = cond (has_place layout l st c) (longer st c) st.journal in
      (layout.fits l js ≡ true) × (ok_journal js ≡ true)
  journal_next ki =
      cond_both (has_place layout l st c) (longer st c) st.journal
      (λ (js : List Item). (layout.fits l js ≡ true) × (ok_journal js ≡ true))
      (λ e. (
        (and_parts (not st.over) (layout.fits l (longer st c)) e).1,
        ok-append st.journal (record { first = eqb st.older 0; call = c }) k.journal_ok
            (ok_next l st.tree st.older (count_set st.held) c gl rd goes ki k.tree_fits),
      ))
      (λ e. (k.journal_fits, k.journal_ok))

  carried_pushed : kind st.tree c ≡ push_it → Carried l (next_by layout l st c push_it)
  unfolding next_by
  carried_pushed ki =
      let n = carried_step l gl core core_carried c rd goes ki in
      let js = journal_next ki in
      record {
        carries = record {
          tree_fits = n.tree_fits;
          few_older = n.few_older;
          held_long = n.held_long;
          fresh_long = length_marked (free (more st.tree c) st.held 0) st.fresh ∙ k.fresh_long;
          journal_fits = js.0;
          journal_ok = js.1;
        };
        own_held = n.own_held;
      }

  carried_written : (x : ℕ) (b : Block) → Carried l (next_by layout l st c (write_it x b))
  unfolding next_by
  carried_written x b = record {
    carries = record {
      tree_fits = k.tree_fits;
      few_older = k.few_older;
      held_long = k.held_long;
      fresh_long = length-set st.fresh x false ∙ k.fresh_long;
      journal_fits = k.journal_fits;
      journal_ok = k.journal_ok;
    };
    own_held = a.own_held;
  }

  carried_noted : Carried l (next_by layout l st c sync_it)
  unfolding next_by ok_journal
  carried_noted =
      cond_both (eqb st.older 0) st
      (cond st.over (rested l (not st.live) (counts_of st.tree) [] st.tree)
      (rested l st.live st.base st.journal st.tree)) (Carried l) (λ _. a)
      (λ _. cond_both st.over (rested l (not st.live) (counts_of st.tree) [] st.tree)
      (rested l st.live st.base st.journal st.tree) (Carried l)
      (λ _. carried_rested l (not st.live) (counts_of st.tree) [] st.tree k.tree_fits (layout_laws.fits_none l) refl)
      (λ _. carried_rested l st.live st.base st.journal st.tree k.tree_fits k.journal_fits k.journal_ok))

  by_kind : (q : Kind) → kind st.tree c ≡ q → Carried l (next_by layout l st c q)
  unfolding next_by
  by_kind nothing e = a
  by_kind push_it e = carried_pushed e
  by_kind (write_it x b) e = carried_written x b
  by_kind (keep_it xs) e = a
  by_kind sync_it e = carried_noted

pub carried_next : CarriedNext
carried_next l st c gl a rd =
    cond_both (eqb (refusal_of l st c) 0) (next_by layout l st c (kind st.tree c)) st (Carried l)
    (λ e. by_kind l gl st a c rd (eqb-true (refusal_of l st c) 0 e) (kind st.tree c) refl) (λ _. a)

-- with nothing under way
module _ (l : Limits) (s : Fs) (d : Disk) (st : State) (m : List ℕ) (i : Idle layout Fits l s d st m) where
  -- the blocks of the newest tree are those of its cells, which are held
  tree_block : (x : ℕ) → is_in x (all_cells st.tree.nodes) ≡ true → is_in x (map (at m) (held_cells s)) ≡ true
  tree_block x h =
      let p : is_in x (map (at m) (all_cells s.tree.nodes)) ≡ true =
      subst (λ (xs : List ℕ). is_in x xs ≡ true)
      (ap (λ (t : Tree). all_cells t.nodes) i.tree_is ∙ all_cells_ren (at m) s.tree.nodes) h in
      let (c, q, e) = of_map (at m) x (all_cells s.tree.nodes) p in
      subst (λ (y : ℕ). is_in y (map (at m) (held_cells s)) ≡ true) e (in_map (at m) c (held_cells s) (tree_held s c q))

  carried_idle : Carried l st
  carried_idle = record {
    carries = record {
      tree_fits = i.tree_fits;
      few_older = older_few layout Fits l s d st m i;
      held_long = held_long layout Fits l s d st m i;
      fresh_long = i.fresh_long;
      journal_fits = i.journal_fits;
      journal_ok = i.journal_ok;
    };
    own_held = λ x h. ap (λ (bs : List Bool). get_or bs x false) i.held_bits
        ∙ have_marks l.room 0 x (map (at m) (held_cells s)) (i.tree_fits.inside x h)
        (subst (λ (y : ℕ). is_in y (map (at m) (held_cells s)) ≡ true) (sym (zero-add x)) (tree_block x h));
  }

  written_idle : whole_disk d ≡ true → Written l (seen d)
  written_idle w =
      let sf = i.safe in
      record {
        root = i.root;
        base_fits = sf.base_fits;
        journal_fits = sf.journal_fits;
        journal_ok = sf.journal_ok;
        top = get_or-seen d 0 ∙ ap (λ (c : Cell). c.now) sf.stored.top;
        area = λ j h. get_or-seen d (area_start layout l i.root.live + j) ∙ ap (λ (c : Cell). c.now) (sf.stored.rest j h);
        long = length_seen d ∙ sf.size;
        whole = whole_seen d w;
      }

some_idle : (l : Limits) (s : Fs) (d : Disk) (mem : List ℕ) (up : Bool) → Now layout Fits l s d mem up [] [] →
    (st : State) × SomeIdle layout Fits l s d st
some_idle l s d mem false n = (wakes layout l (seen d), n.3)
some_idle l s d mem true n = (n.1.0, n.1.2)

pub always_carried : (can : ℕ → Bool) → AlwaysCarried can
always_carried can l w gl lv ar up todo under =
    let g = good layout Fits layout_laws can l w gl lv ar in
    let (st, mem, i) = (turn layout Fits l g.0 w true [] [] up todo under g.3).1 in
    (st, carried_idle l g.0 w.disk st i.0 i.1, mem)

pub always_written : (can : ℕ → Bool) → AlwaysWritten can
unfolding under_readable
always_written can l w gl lv ar todo under =
    let g = good layout Fits layout_laws can l w gl lv ar in
    let (st, i) = some_idle l g.0 w.disk w.memory w.up (turn layout Fits l g.0 w w.up [] [] refl todo under g.3) in
    written_idle l g.0 w.disk st i.0 i.1
    (whole_always layout Fits layout_laws can l gl w lv ar (ap under_readable under))
