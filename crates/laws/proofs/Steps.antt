-- What a call does to the file system: a view with one case for each way in which a call can change it and the facts that
-- hold where it does, so that no other proof looks at the refusals; and what holds ever, if it holds at first and every step
-- and every loss of power keeps it.
use Rattle.std.proofs.Common.{◌≡◌, ℕ, ◌+◌, ◌-◌, ◌<◌, ◌≤◌, true, ◌&&◌, eqb, List, [], ◌++◌, length, get_or, set, refl, arith}
use Rattle.std.proofs.lemmas.Bool.{eqb-true, cond_both}
use Rattle.std.proofs.lemmas.Bool.Decides.{nat_tests}
use Rattle.model.specs.Tree.{Tree, some_of, first_of, body_of, is_file, entries, cells, named, moved, dir, file}
use Rattle.model.specs.Calls.{Block, Call, find, make_file, make_dir, remove, rename, list, size, read, write, resize, sync_file}
use Rattle.model.specs.Calls.{sync_tree}
use Rattle.model.specs.Calls.{garbled}
use Rattle.model.specs.Refusals.{Limits, refusal_by}
use Rattle.model.specs.Fs.{Fs, new_fs, empty_cell, held, turned, push, resized, written, kept_all, with_cells, cell_at, changed}
use Rattle.model.specs.Fs.{after, lost}
use Rattle.model.specs.World.{Happening}
use Rattle.model.specs.Promise.{Explains, at_first, told, cut_late, cut_early, gone, Leads}
use Rattle.laws.proofs.Changes.{Change, makes, removes, renames}

pub data Step (l : Limits) (s : Fs) : Call → Fs → Type 0 where
  still : {c : Call} → Step l s c s
  changes : {c : Call} {t : Tree} → Change l s.tree t → length s.older < l.pending → Step l s c (push t s)
  wrote : (i o : ℕ) (b : Block) → o < length (cells (body_of s.tree i)) →
      Step l s (write i o b) (with_cells (set s.cells (cell_at s i o) (written (get_or s.cells (cell_at s i o) empty_cell) b)) s)
  file_synced : (i : ℕ) → Step l s (sync_file i) (with_cells (kept_all (cells (body_of s.tree i)) s.cells) s)
  sized : (i n : ℕ) → is_file (body_of s.tree i) ≡ true →
      held s + (n - length (cells (body_of s.tree i))) ≤ l.room → length s.older < l.pending →
      Step l s (resize i n) (resized i n s)
  synced : Step l s sync_tree (record { tree = s.tree; older = []; cells = s.cells })

module _ (l : Limits) (s : Fs) where
  abbrev older_now : ℕ
  older_now = length s.older

  taken : {c : Call} {t : Tree} → Change l s.tree t × (older_now < l.pending) → Step l s c (push t s)
  taken p = changes p.0 p.1

  did : (c : Call) → refusal_by l s.tree older_now (held s) c ≡ 0 → Step l s c (changed s c)
  unfolding refusal_by changed entries cells
  did (find d n) h = still
  did (make_file d n) h = taken (makes l s.tree older_now d n (file []) refl refl h)
  did (make_dir d n) h = taken (makes l s.tree older_now d n (dir []) refl refl h)
  did (remove d n) h = taken (removes l s.tree older_now d n (grind arith) (grind arith))
  did (rename d n e m) h =
      cond_both (some_of (named s.tree e m) && eqb (first_of (named s.tree d n)) (first_of (named s.tree e m))) s
      (push (moved d n e m (first_of (named s.tree d n)) s.tree) s) (λ z. Step l s (rename d n e m) z) (λ _. still)
      (λ f. taken (renames l s.tree older_now d n e m (grind arith) (grind arith) (grind arith) f))
  did (list d k) h = still
  did (size i) h = still
  did (read i o) h = still
  did (write i o b) h = wrote i o b (grind (arith, nat_tests))
  did (resize i n) h =
      cond_both (eqb n (length (cells (body_of s.tree i)))) s (resized i n s) (λ z. Step l s (resize i n) z) (λ _. still)
      (λ ne. sized i n (grind arith) (grind (arith, nat_tests)) (grind (arith, nat_tests)))
  did (sync_file i) h = file_synced i
  did sync_tree h = synced
  did (garbled n) h = still

  turned_zero : (c : Call) → turned l s c ≡ 0 → refusal_by l s.tree older_now (held s) c ≡ 0
  turned_zero c h = grind arith

  pub step : (c : Call) → Step l s c (after l s c)
  step c =
      cond_both (eqb (turned l s c) 0) (changed s c) s (λ z. Step l s c z) (λ e. did c (turned_zero c (eqb-true _ _ e))) (λ _. still)

pub ever : (l : Limits) (Q : Fs → Type 0) → Q new_fs → ((s t : Fs) (c : Call) → Step l s c t → Q s → Q t) →
    ((s : Fs) (n : ℕ) (g : ℕ → ℕ) → Q s → Q (lost n g s)) → (hs : List Happening) (s : Fs) → Explains l hs s → Q s
ever l Q z f p _ _ at_first = z
ever l Q z f p _ _ (told {hs} {s} c r) = f _ _ c (step l s c) (ever l Q z f p hs s r)
ever l Q z f p _ _ (cut_late {hs} {s} c n g r) = p _ n g (f _ _ c (step l s c) (ever l Q z f p hs s r))
ever l Q z f p _ _ (cut_early {hs} {s} c n g r) = p s n g (ever l Q z f p hs s r)
ever l Q z f p _ _ (gone {hs} {s} n g r) = p s n g (ever l Q z f p hs s r)

-- one history after another
pub leads_on : {l : Limits} {o s t : Fs} {before since : List Happening} → Leads l o before s → Leads l s since t →
    Leads l o (since ++ before) t
leads_on r at_first = r
leads_on r (told c q) = told c (leads_on r q)
leads_on r (cut_late c n g q) = cut_late c n g (leads_on r q)
leads_on r (cut_early c n g q) = cut_early c n g (leads_on r q)
leads_on r (gone n g q) = gone n g (leads_on r q)
