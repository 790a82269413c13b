-- Law 14: once the tree was synced, every tree that power may bring back later was the newest at some moment since.
use Rattle.std.proofs.Common.{◌≡◌, List, [], ◌∷◌, refl, ap}
use Rattle.model.specs.Tree.{Tree}
use Rattle.model.specs.Calls.{sync_tree, Call}
use Rattle.model.specs.Refusals.{Limits}
use Rattle.model.specs.Fs.{Fs, changed, answer, after}
use Rattle.model.specs.World.{Happening, was_told}
use Rattle.model.specs.Promise.{told, Leads, at_first, cut_late, cut_early, gone}
use Rattle.model.specs.Laws.{NewestOnce, SyncLasts}
use Rattle.laws.proofs.Each.{more, Each, each_map, each_nth, older_step, newest, no_more}
use Rattle.laws.proofs.Refused.{done_since}
use Rattle.laws.proofs.Steps.{step}

module _ (l : Limits) (o : Fs) where
  -- what was the newest at some moment was that, too, when one more call was answered
  later : (hs : List Happening) (s : Fs) (c : Call) (t : Tree) → NewestOnce l o hs s t →
      NewestOnce l o (was_told c (answer l s c) ∷ hs) (after l s c) t
  later hs s c t w = record {
    before = w.before;
    since = was_told c (answer l s c) ∷ w.since;
    then = w.then;
    whole = ap (λ u. was_told c (answer l s c) ∷ u) w.whole;
    led = w.led;
    leads = told c w.leads;
    newest = w.newest;
  }

  -- the newest tree is that now
  right_now : {hs : List Happening} {s : Fs} → Leads l o hs s → NewestOnce l o hs s s.tree
  right_now {hs} {s} r = record { before = hs; since = []; then = s; whole = refl; led = r; leads = at_first; newest = refl }

  each_once_newest : o.older ≡ [] → (hs : List Happening) (s : Fs) → Leads l o hs s → Each (NewestOnce l o hs s) (s.tree ∷ s.older)
  each_once_newest e _ _ at_first = more (right_now at_first) (rw e no_more)
  each_once_newest e _ _ (told {hs} {s} c r) =
      more (right_now (told c r)) (older_step (step l s c) (each_map (later hs s c) (each_once_newest e hs s r)))
  each_once_newest e _ _ (cut_late c n g r) = more (right_now (cut_late c n g r)) no_more
  each_once_newest e _ _ (cut_early c n g r) = more (right_now (cut_early c n g r)) no_more
  each_once_newest e _ _ (gone n g r) = more (right_now (gone n g r)) no_more

pub sync_lasts : SyncLasts
unfolding SyncLasts changed
sync_lasts l u s hs n h r =
    let alone : (after l u sync_tree).older ≡ [] = ap (λ (x : Fs). x.older) (done_since l u sync_tree h) in
    let a : Each (NewestOnce l (after l u sync_tree) hs s) (s.tree ∷ s.older) = each_once_newest l (after l u sync_tree) alone hs s r in
    each_nth s.tree n (newest a) a
