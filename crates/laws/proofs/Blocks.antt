-- What a cell has or may have after power is lost: each call and each loss of power leaves only what it had or may have had, and
-- what was written.
use Rattle.std.proofs.Common.{◌≡◌, ℕ, zero, suc, ◌<◌, List, [], ◌∷◌, ◌++◌, length, get_or, set, sym, refl, subst, inl, inr}
use Rattle.std.proofs.lemmas.List.{get_or-set_same, get_or-set_other, get_or_append_left}
use Rattle.std.proofs.lemmas.Bool.{eq-eqb, cases_eq}
use Rattle.model.specs.Tree.{body_of, cells}
use Rattle.model.specs.Calls.{Block, Call, write, resize, sync_file, sync_tree}
use Rattle.model.specs.Refusals.{Limits}
use Rattle.model.specs.Fs.{Cell, Fs, empty_cell, kept_all, chosen, written, cell_at}
use Rattle.model.specs.Laws.{here, there, Among, writes_by}
use Rattle.model_facts.proofs.Cells.{one_kept}
use Rattle.laws.proofs.Owned.{Owned}
use Rattle.laws.proofs.Steps.{Step, still, changes, wrote, file_synced, sized, synced}

-- whatever is in one list is in another
abbrev pub Amid : List Block → List Block → Type 0
Amid xs ys = (b : Block) → Among b xs → Among b ys

-- more was written
among_skip : (b w x : Block) (ys : List Block) → Among b (w ∷ ys) → Among b (w ∷ (x ∷ ys))
among_skip b _ x _ (here ys) = here _
among_skip b w x _ (there _ ys r) = there _ _ (there _ _ r)

pub among_more : (b w : Block) (xs ws : List Block) → Among b (w ∷ ws) → Among b (w ∷ (xs ++ ws))
among_more b w [] ws h = h
among_more b w (x ∷ xs) ws h = among_skip b w x _ (among_more b w xs ws h)

-- one of a list, or its first past the end
among_at : (b : Block) (xs : List Block) (k : ℕ) → Among (get_or xs k b) (b ∷ xs)
among_at b [] k = here []
among_at b (x ∷ xs) zero = there b (x ∷ xs) (here xs)
among_at b (x ∷ xs) (suc k) = among_skip _ b x xs (among_at b xs k)

-- what a cell has or may have
abbrev pub blocks_at : List Cell → ℕ → List Block
blocks_at cs c = (get_or cs c empty_cell).now ∷ (get_or cs c empty_cell).maybe

-- synced, it may have no more
blocks_one : (cs : List Cell) (k c : ℕ) → Amid (blocks_at (one_kept cs k) c) (blocks_at cs c)
blocks_one [] k c b m = m
blocks_one (x ∷ cs) zero zero b (here _) = here _
blocks_one (x ∷ cs) zero zero b (there _ _ r) = elim r [ ]
blocks_one (x ∷ cs) zero (suc c) b m = m
blocks_one (x ∷ cs) (suc k) zero b m = m
blocks_one (x ∷ cs) (suc k) (suc c) b m = blocks_one cs k c b m

blocks_kept : (ks : List ℕ) (cs : List Cell) (c : ℕ) → Amid (blocks_at (kept_all ks cs) c) (blocks_at cs c)
unfolding kept_all
blocks_kept [] cs c b m = m
blocks_kept (k ∷ ks) cs c b m = blocks_one cs k c b (blocks_kept ks (one_kept cs k) c b m)

-- and after power is lost
pub blocks_lost : (g : ℕ → ℕ) (k : ℕ) (cs : List Cell) (c : ℕ) → Amid (blocks_at (chosen g k cs) c) (blocks_at cs c)
unfolding chosen
blocks_lost g k [] c b m = m
blocks_lost g k (x ∷ cs) zero b (here _) = among_or (g k)
  where
    among_or : (n : ℕ) → Among (get_or (x.now ∷ x.maybe) n x.now) (x.now ∷ x.maybe)
    among_or zero = here _
    among_or (suc n) = among_at x.now x.maybe n
blocks_lost g k (x ∷ cs) zero b (there _ _ r) = elim r [ ]
blocks_lost g k (x ∷ cs) (suc c) b m = blocks_lost g (suc k) cs c b m

-- a write to the place
among_written : (b first : Block) (xs ws : List Block) → Amid xs (first ∷ ws) → Amid (b ∷ xs) (first ∷ (b ∷ ws))
among_written b first xs ws f _ (here _) = there _ _ (here _)
among_written b first xs ws f x (there _ _ r) = among_skip x first b ws (f x r)

-- what each call leaves of the cell
module _ (l : Limits) (i o c : ℕ) (first : Block) (ws : List Block) (s : Fs) (a : Owned i o c s.tree.next s.tree.nodes)
    (lt : c < length s.cells) (f : Amid (blocks_at s.cells c) (first ∷ ws)) where
  as_was : (call : Call) (cs : List Cell) → Amid (blocks_at cs c) (blocks_at s.cells c) →
      Amid (blocks_at cs c) (first ∷ (writes_by i o call ++ ws))
  as_was call cs k b m = among_more b first (writes_by i o call) ws (f b (k b m))

  same_cell : (call : Call) (cs : List Cell) → get_or cs c empty_cell ≡ get_or s.cells c empty_cell →
      Amid (blocks_at cs c) (first ∷ (writes_by i o call ++ ws))
  same_cell call cs e = as_was call cs (λ b m. subst (λ (x : Cell). Among b (x.now ∷ x.maybe)) e m)

  written_here : (j p : ℕ) (b : Block) → cell_at s j p ≡ c → (j ≡ i) × (p ≡ o) →
      Amid (blocks_at (set s.cells (cell_at s j p) (written (get_or s.cells (cell_at s j p) empty_cell) b)) c)
      (first ∷ (writes_by i o (write j p b) ++ ws))
  unfolding writes_by
  written_here j p b z (x, y) =
      rw (z, eq-eqb i j (sym x), eq-eqb o p (sym y))
      (rw (get_or-set_same s.cells c (written (get_or s.cells c empty_cell) b) empty_cell lt) (among_written b first _ ws f))

  pub blocks_step : (t : Fs) (call : Call) → Step l s call t → Amid (blocks_at t.cells c) (first ∷ (writes_by i o call ++ ws))
  blocks_step t call still = same_cell call s.cells refl
  blocks_step t call (changes u w) = same_cell call s.cells refl
  blocks_step t _ (wrote j p b w) =
      elim (cases_eq (cell_at s j p) c) [
        | inl z ↦ written_here j p b z (a.alone j p w z)
        | inr ne ↦ same_cell (write j p b) _ (get_or-set_other s.cells (cell_at s j p) c _ empty_cell (λ z. ne (sym z)))
      ]
  blocks_step t _ (file_synced j) = as_was (sync_file j) _ (blocks_kept (cells (body_of s.tree j)) s.cells c)
  blocks_step t _ (sized j n x y w) = same_cell (resize j n) _ (get_or_append_left s.cells _ empty_cell c lt)
  blocks_step t _ synced = same_cell sync_tree s.cells refl
