-- What holds of each tree that power may bring back, if it holds at first and each step keeps it of the newest.
use Rattle.std.proofs.Common.{ℕ, zero, suc, ◌≤◌, List, [], ◌∷◌, length, get_or, sym, le_of_eq, arith, length-append, length-set}
use Rattle.model.specs.Tree.{Tree, new_tree}
use Rattle.model.specs.Calls.{Call}
use Rattle.model.specs.Refusals.{Limits}
use Rattle.model.specs.Fs.{Fs, new_fs, lost}
use Rattle.model.specs.World.{Happening}
use Rattle.model.specs.Promise.{Leads}
use Rattle.model_facts.proofs.Cells.{length-chosen, length-kept_all}
use Rattle.laws.proofs.Steps.{Step, still, changes, wrote, file_synced, sized, synced, ever}

pub data Each (P : Tree → Type 0) : List Tree → Type 0 where
  no_more : Each P []
  more : {t : Tree} {ts : List Tree} → P t → Each P ts → Each P (t ∷ ts)

pub each_map : {P R : Tree → Type 0} {ts : List Tree} → ((t : Tree) → P t → R t) → Each P ts → Each R ts
each_map f no_more = no_more
each_map f (more p ps) = more (f _ p) (each_map f ps)

pub each_nth : {P : Tree → Type 0} (d : Tree) {ts : List Tree} (n : ℕ) → P d → Each P ts → P (get_or ts n d)
each_nth d n p no_more = p
each_nth d zero p (more q qs) = q
each_nth d (suc n) p (more q qs) = each_nth d n p qs

pub older_step : {l : Limits} {s t : Fs} {c : Call} {P : Tree → Type 0} → Step l s c t → Each P (s.tree ∷ s.older) → Each P t.older
older_step still (more a b) = b
older_step (changes u w) a = a
older_step (wrote i p x h) (more a b) = b
older_step (file_synced i) (more a b) = b
older_step (sized i n x y w) a = a
older_step synced a = no_more

pub cells_step : {l : Limits} {s t : Fs} {c : Call} → Step l s c t → length s.cells ≤ length t.cells
cells_step still = omega arith
cells_step (changes u w) = omega arith
cells_step {s = s} (wrote i p b h) = le_of_eq (sym (length-set s.cells _ _))
cells_step {s = s} (file_synced i) = le_of_eq (sym (length-kept_all _ s.cells))
cells_step (sized i n x y w) = simp length-append (omega arith)
cells_step synced = omega arith

pub newest : {P : Tree → Type 0} {t : Tree} {ts : List Tree} → Each P (t ∷ ts) → P t
newest (more p ps) = p

module _ (l : Limits) (P : ℕ → Tree → Type 0) (up : (v w : ℕ) (t : Tree) → v ≤ w → P v t → P w t)
    (first : P 0 new_tree) (next : (s t : Fs) (c : Call) → Step l s c t → P (length s.cells) s.tree →
    P (length t.cells) t.tree) where
  abbrev All : Fs → Type 0
  All s = Each (P (length s.cells)) (s.tree ∷ s.older)

  stepped : (s t : Fs) (c : Call) → Step l s c t → All s → All t
  stepped s t c r a = more (next s t c r (newest a)) (older_step r (each_map (λ x p. up _ _ x (cells_step r) p) a))

  goes : (s : Fs) (n : ℕ) (g : ℕ → ℕ) → All s → All (lost n g s)
  goes s n g a = rw (length-chosen g 0 s.cells) (more (each_nth _ n (newest a) a) no_more)

  pub ever_each : (hs : List Happening) (s : Fs) → Leads l new_fs hs s → (n : ℕ) →
      P (length s.cells) (get_or (s.tree ∷ s.older) n s.tree)
  ever_each hs s r n = let a : All s = ever l All (more first no_more) stepped goes hs s r in each_nth _ n (newest a) a
