-- Laws 5 and 6: what was synced stays. After a sync of the tree power brings back no older one, and after a sync of a file its
-- places have what they had.
use Rattle.std.proofs.Common.{◌≡◌, ℕ, zero, suc, ◌<◌, List, [], ◌∷◌, length, get_or, refl, ◌∙◌, arith}
use Rattle.model.specs.Calls.{sync_file, sync_tree}
use Rattle.model.specs.Fs.{Cell, empty_cell, kept_all, changed, chosen}
use Rattle.model.specs.Laws.{TreeKept, FileKept}
use Rattle.model_facts.proofs.Cells.{nth_one, now_all, one_kept}
use Rattle.laws.proofs.Refused.{done_since}

pub tree_kept : TreeKept
unfolding TreeKept changed
tree_kept l s n g h = rw (done_since l s sync_tree h) (nth_one _ n)

-- one cell kept: what each has now stays, and what was kept stays so
one_stays : (cs : List Cell) (k j : ℕ) → (get_or cs j empty_cell).maybe ≡ [] → (get_or (one_kept cs k) j empty_cell).maybe ≡ []
one_stays [] k j h = h
one_stays (c ∷ cs) zero zero h = refl
one_stays (c ∷ cs) zero (suc j) h = h
one_stays (c ∷ cs) (suc k) zero h = h
one_stays (c ∷ cs) (suc k) (suc j) h = one_stays cs k j h

one_here : (cs : List Cell) (k : ℕ) → (get_or (one_kept cs k) k empty_cell).maybe ≡ []
one_here [] k = refl
one_here (c ∷ cs) zero = refl
one_here (c ∷ cs) (suc k) = one_here cs k

-- many cells kept
pub all_stay : (ks : List ℕ) (cs : List Cell) (j : ℕ) → (get_or cs j empty_cell).maybe ≡ [] → (get_or (kept_all ks cs) j empty_cell).maybe ≡ []
unfolding kept_all
all_stay [] cs j h = h
all_stay (k ∷ ks) cs j h = all_stay ks (one_kept cs k) j (one_stays cs k j h)

pub all_here : (ks : List ℕ) (cs : List Cell) (o : ℕ) → o < length ks → (get_or (kept_all ks cs) (get_or ks o 0) empty_cell).maybe ≡ []
unfolding kept_all
all_here [] cs o h = absurd (omega arith)
all_here (k ∷ ks) cs zero h = all_stay ks (one_kept cs k) k (one_here cs k)
all_here (k ∷ ks) cs (suc o) h = all_here ks (one_kept cs k) o (omega arith)

-- what was kept is what power leaves
pub chosen_kept : (g : ℕ → ℕ) (m : ℕ) (cs : List Cell) (j : ℕ) → (get_or cs j empty_cell).maybe ≡ [] →
    (get_or (chosen g m cs) j empty_cell).now ≡ (get_or cs j empty_cell).now
unfolding chosen
chosen_kept g m [] j h = refl
chosen_kept g m (c ∷ cs) zero h = rw h (nth_one c.now (g m))
chosen_kept g m (c ∷ cs) (suc j) h = chosen_kept g (suc m) cs j h

pub file_kept : FileKept
unfolding FileKept changed
file_kept l s i o n g h lt _ =
    rw (done_since l s (sync_file i) h)
    (chosen_kept g 0 _ _ (all_here _ s.cells o lt) ∙ now_all _ s.cells _)
