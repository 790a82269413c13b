-- Law 13: a resize gives a file so many places. Those that stay read as before, new ones read zeros, and other files stay.
use Rattle.std.proofs.Common.{◌≡◌, ℕ, zero, suc, ◌+◌, ◌-◌, ◌<◌, ◌≤◌, Bool, true, eqb, List, [], ◌∷◌, ◌++◌, length, get_or, take, replicate, sym, refl, ap, ◌∙◌, subst, le_trans, le_of_eq, arith, length-append, length-take}
use Rattle.std.proofs.lemmas.List.{get_or-take, get_or_append_left, get_or-append_right, get_or-append-add, get_or-replicate}
use Rattle.std.proofs.lemmas.Bool.{eqb-true, cond_both}
use Rattle.std.proofs.lemmas.Bool.Decides.{nat_tests}
use Rattle.model.specs.Tree.{body_of, is_file, cells, file}
use Rattle.model.specs.Calls.{empty_block, call_number, good_fields, size, read, resize, number, block}
use Rattle.model.specs.Refusals.{Limits, refusal_by}
use Rattle.model.specs.Fs.{Cell, Fs, empty_cell, turned, numbers, resized, cell_at, reply, answer, changed}
use Rattle.model.specs.Laws.{ResizeKeeps}
use Rattle.model_facts.proofs.Cells.{length-numbers}
use Rattle.model_facts.proofs.Nodes.{file_some, find_with, find_with_other}
use Rattle.laws.proofs.Apart.{Apart, apart}
use Rattle.laws.proofs.Reading.{read_is, read_same, read_found}
use Rattle.laws.proofs.Places.{in_range}
use Rattle.laws.proofs.Refused.{done_since}

get_or-numbers : (m k o : ℕ) → o < m → get_or (numbers m k) o 0 ≡ k + o
unfolding numbers
get_or-numbers zero k o h = absurd (omega arith)
get_or-numbers (suc m) k zero h = omega arith
get_or-numbers (suc m) k (suc o) h = omega (arith, get_or-numbers m (suc k) o (omega arith))

-- what law 13 says of the file system after the resize
abbrev KeptSo : Limits → Fs → ℕ → ℕ → Fs → Type 0
KeptSo l s i n t =
    (answer l t (size i) ≡ number n)
    × ((o : ℕ) → o < n → o < length (cells (body_of s.tree i)) → answer l t (read i o) ≡ answer l s (read i o))
    × ((o : ℕ) → o < n → length (cells (body_of s.tree i)) ≤ o → answer l t (read i o) ≡ block empty_block)
    × ((j p : ℕ) → (j ≡ i → ⊥) → answer l t (read j p) ≡ answer l s (read j p))

-- a file's size
size_is : (l : Limits) (s : Fs) (i n : ℕ) → l.calls_can 6 ≡ true → is_file (body_of s.tree i) ≡ true →
    length (cells (body_of s.tree i)) ≡ n → answer l s (size i) ≡ number n
unfolding call_number good_fields refusal_by reply
size_is l s i n c f e = rw (c, f, e)

may_resize : (l : Limits) (s : Fs) (i n : ℕ) → turned l s (resize i n) ≡ 0 → is_file (body_of s.tree i) ≡ true
unfolding refusal_by
may_resize l s i n h = grind (arith, nat_tests)

-- the cells of a file of so many places, and where its cells are
module _ (cs : List ℕ) (n k : ℕ) where
  abbrev pub sized_cells : List ℕ
  sized_cells = take n cs ++ numbers (n - length cs) k

  pub length-sized : length sized_cells ≡ n
  length-sized = simp (length-append, length-numbers, length-take) (omega arith)

  pub sized_old : (o : ℕ) → o < n → o < length cs → get_or sized_cells o 0 ≡ get_or cs o 0
  sized_old o h w =
      let lt : o < length (take n cs) = simp length-take (omega arith) in
      get_or_append_left (take n cs) _ 0 o lt ∙ get_or-take n cs o 0 h

  pub sized_new : (o : ℕ) → o < n → length cs ≤ o → get_or sized_cells o 0 ≡ k + (o - length cs)
  sized_new o h w =
      let e : length (take n cs) ≡ length cs = simp length-take (omega arith) in
      get_or-append_right (take n cs) _ (length cs) o 0 e w ∙ get_or-numbers (n - length cs) k (o - length cs) (omega arith)

module _ (l : Limits) (s : Fs) (i n : ℕ) (a : Apart (length s.cells) s.tree.nodes) (f : is_file (body_of s.tree i) ≡ true)
    (c6 : l.calls_can 6 ≡ true) (c7 : l.calls_can 7 ≡ true) where
  abbrev cs : List ℕ
  cs = cells (body_of s.tree i)

  abbrev new : List ℕ
  new = sized_cells cs n (length s.cells)

  abbrev extra : List Cell
  extra = replicate (n - length cs) empty_cell

  abbrev u : Fs
  u = resized i n s

  found : body_of u.tree i ≡ file new ∷ []
  found = find_with i (file new) s.tree.nodes (file_some _ f)

  new_file : is_file (body_of u.tree i) ≡ true
  unfolding is_file
  new_file = rw found

  new_cells : cells (body_of u.tree i) ≡ new
  unfolding cells
  new_cells = rw found

  read_new : (o : ℕ) → o < n → answer l u (read i o) ≡ block (get_or (s.cells ++ extra) (get_or new o 0) empty_cell).now
  read_new o h =
      read_is l u i o ∙ (read_found l (body_of u.tree i) u.cells o c7 new_file
      (le_trans h (le_of_eq (sym (ap length new_cells ∙ length-sized cs n _))))
      ∙ ap (λ (z : List ℕ). block (get_or (s.cells ++ extra) (get_or z o 0) empty_cell).now) new_cells)

  was_there : (j o : ℕ) → o < length (cells (body_of s.tree j)) →
      get_or (s.cells ++ extra) (cell_at s j o) empty_cell ≡ get_or s.cells (cell_at s j o) empty_cell
  was_there j o w = get_or_append_left s.cells extra empty_cell (cell_at s j o) (in_range (length s.cells) s.tree.nodes a j o w)

  resized_so : KeptSo l s i n u
  resized_so = (
    size_is l u i n c6 new_file (ap length new_cells ∙ length-sized cs n (length s.cells)),
    (λ o h w. read_new o h ∙ (ap (λ (z : ℕ). block (get_or (s.cells ++ extra) z empty_cell).now)
        (sized_old cs n (length s.cells) o h w)
        ∙ (ap (λ (z : Cell). block z.now) (was_there i o w)
        ∙ sym (read_is l s i o ∙ read_found l (body_of s.tree i) s.cells o c7 f w)))),
    (λ o h w. read_new o h ∙ (ap (λ (z : ℕ). block (get_or (s.cells ++ extra) z empty_cell).now)
        (sized_new cs n (length s.cells) o h w)
        ∙ ap (λ (z : Cell). block z.now) (get_or-append-add s.cells extra (o - length cs) empty_cell
        ∙ get_or-replicate (n - length cs) (o - length cs) empty_cell empty_cell (omega arith)))),
    λ j p ne. read_is l u j p ∙ (read_same l (body_of u.tree j) (body_of s.tree j) u.cells s.cells p
        (find_with_other j i (file new) s.tree.nodes ne)
        (λ w. ap (λ (z : Cell). z.now) (was_there j p w))
        ∙ sym (read_is l s j p)),
  )

-- nothing changes where the file has so many places already
same_so : (l : Limits) (s : Fs) (i n : ℕ) → is_file (body_of s.tree i) ≡ true → l.calls_can 6 ≡ true →
    length (cells (body_of s.tree i)) ≡ n → KeptSo l s i n s
same_so l s i n f c6 e = (size_is l s i n c6 f e, (λ o h w. refl), (λ o h w. absurd (omega arith)), λ j p ne. refl)

pub resize_keeps : (can : ℕ → Bool) → ResizeKeeps can
unfolding ResizeKeeps changed
resize_keeps can l hs s good r i n c6 c7 h =
    let f : is_file (body_of s.tree i) ≡ true = may_resize l s i n h in
    subst (KeptSo l s i n) (sym (done_since l s (resize i n) h))
    (cond_both (eqb n (length (cells (body_of s.tree i)))) s (resized i n s) (KeptSo l s i n)
    (λ e. same_so l s i n f (good.5 6 ∙ c6) (sym (eqb-true _ _ e)))
    (λ _. resized_so l s i n (apart l hs s r 0) f (good.5 6 ∙ c6) (good.5 7 ∙ c7)))
