-- How far tables that hold a tree reach: their lengths, and that what a place tells stays within what is in use.
use Rattle.std.proofs.Common.{◌≡◌, ℕ, suc, ◌+◌, ◌-◌, ◌*◌, ◌<◌, ◌≤◌, List, [], ◌∷◌, ◌++◌, length, get_or, take, drop, replicate, sym, ap, ◌∙◌, ap₂, arith, length-append, length-drop, get_or-drop, get_or-take}
use lib.Seq.{take-append-add}
use Rattle.std.proofs.lemmas.List.{drop_more, take-append-drop, length-take-le, get_or_append_left, get_or-append_right}
use Rattle.blocks.specs.Words.{closed}
use Rattle.blocks.proofs.Words.{length-pad}
use Rattle.model.specs.Tree.{dir, Node, Tree, all_cells}
use Rattle.machine.specs.State.{entry_count}
use Rattle.machine.specs.Tables.{entries_in, cells_in, node_words, sum_words, entry_words, cell_words}
use Rattle.machine.proofs.Tables.{length-nodes, length-sums, length-entries, entries-append, cells_are}
use Rattle.tables.specs.Lookup.{row_entries, row_cells, Place}
use Rattle.tables.specs.Edits.{Tables}
use Rattle.tables.specs.Stands.{Holds, Stands, Bounds, Within}
use Rattle.tables.proofs.Bodies.{dir_has, file_has}
use Rattle.tables.proofs.Sums.{entries_more, cells_more, cells-append}
use Rattle.tables.proofs.NodeRows.{entries_at, cells_at}

-- a word after those that went
moved_down : (used at n i j : ℕ) (ws : List ℕ) → at + n ≤ used → used ≤ length ws → at ≤ i → (j ≡ i + n) × (j < used) →
    get_or (closed used at n ws) i 0 ≡ get_or ws j 0
moved_down used at n i j ws le long lo is =
    let A : List ℕ = take at ws in
    let M : List ℕ = take (used - (at + n)) (drop (at + n) ws) in
    let R : List ℕ = replicate n 0 ++ drop used ws in
    let ji = is.0 in
    let ju = is.1 in
    let la : length A ≡ at = length-take-le at ws (omega arith) in
    let ld = length-drop (at + n) ws in
    let lm : length M ≡ used - (at + n) = length-take-le (used - (at + n)) (drop (at + n) ws) (omega arith) in
    let z : at + n + (i - at) ≡ j = omega arith in
    get_or-append_right A (M ++ R) at i 0 la lo
    ∙ (get_or_append_left M R 0 (i - at) (omega arith)
    ∙ (get_or-take (used - (at + n)) (drop (at + n) ws) (i - at) 0 (omega arith)
    ∙ (get_or-drop (at + n) ws (i - at) 0 ∙ ap (λ x. get_or ws x 0) z)))

module _ {m room : ℕ} {t : Tree} {T : Tables} (h : Holds m room t T) where
  abbrev ts : List Node
  ts = t.nodes

  -- the sums of a row are what the rows before it have
  module _ (k : ℕ) (lt : k < T.used.nodes) where
    abbrev u : Node
    u = get_or ts k (record { id = 0; body = dir [] })

    inside : k < length ts
    inside = let n = h.nodes_used in omega arith

    parts : ts ≡ take k ts ++ (u ∷ drop (k + 1) ts)
    parts = sym (take-append-drop k ts) ∙ ap (λ x. take k ts ++ x) (drop_more ts k (record { id = 0; body = dir [] }) inside)

    row : length (take k ts) ≡ k
    row = length-take-le k ts (omega (arith, inside))

    sum-entries : row_entries T.sums k ≡ entry_count (take k ts)
    sum-entries = ap (λ ss. row_entries ss k) h.sums ∙ entries_at ts (take k ts) u (drop (k + 1) ts) _ k parts row

    sum-cells : row_cells T.sums k ≡ length (all_cells (take k ts))
    sum-cells = ap (λ ss. row_cells ss k) h.sums ∙ cells_at ts (take k ts) u (drop (k + 1) ts) _ k parts row

    sum_low : row_entries T.sums k ≤ T.used.entries
    sum_low =
        let a = ap entry_count (take-append-drop k ts) in
        omega (arith, sum-entries, entries-append (take k ts) (drop k ts), a, h.entries_used)

    sum-few : row_cells T.sums k ≤ T.used.cells
    sum-few =
        let a = ap (λ x. length (all_cells x)) (take-append-drop k ts) in
        omega (arith, sum-cells, cells-append (take k ts) (drop k ts), a, h.cells_used)

  bounds : Bounds m room T
  bounds = record {
    nodes_long = ap length h.nodes ∙ length-pad (4 * m) (node_words ts) (omega (arith, length-nodes ts, h.nodes_used, h.nodes_fit));
    sums_long =
        ap length h.sums ∙ length-pad (2 * m) (sum_words 0 0 ts) (omega (arith, length-sums 0 0 ts, h.nodes_used, h.nodes_fit));
    entries_long =
        ap length h.entries ∙ length-pad (16 * m) (entry_words ts) (omega (arith, length-entries ts, h.entries_used, h.entries_fit));
    cells_long =
        ap length h.cells ∙ length-pad room (cell_words ts) (omega (arith, ap length (cells_are ts), h.cells_used, h.cells_fit));
    entries_before = sum_low;
    cells_before = sum-few;
  }

  module _ {i : ℕ} {p : Place} (s : Stands i t.nodes p) where
    abbrev node : Node
    node = record { id = i; body = s.body }

    -- the rows before a later one: those before the node, the node, and some after it
    earlier : (k : ℕ) → p.row < k → take k ts ≡ s.pre ++ (node ∷ take (k - (p.row + 1)) s.post)
    earlier k lt =
        let j : ℕ = k - (p.row + 1) in
        let z : k ≡ length s.pre + suc j = omega (arith, s.row) in
        ap₂ (λ n x. take n x) z s.whole ∙ take-append-add s.pre (node ∷ s.post) (suc j)

    earlier_entries : (k : ℕ) → p.row < k → p.entries + length (entries_in s.body) ≤ entry_count (take k ts)
    earlier_entries k lt =
        let R : List Node = take (k - (p.row + 1)) s.post in
        omega (arith, ap entry_count (earlier k lt), entries-append s.pre (node ∷ R), entries_more node R, s.entries)

    earlier_cells : (k : ℕ) → p.row < k → p.cells + length (cells_in s.body) ≤ length (all_cells (take k ts))
    earlier_cells k lt =
        let R : List Node = take (k - (p.row + 1)) s.post in
        let e = ap (λ x. length (all_cells x)) (earlier k lt) in
        omega (arith, e, cells-append s.pre (node ∷ R), cells_more node R, s.cells)

    all_entries : p.entries + length (entries_in s.body) ≤ T.used.entries
    all_entries =
        omega (
          arith,
          h.entries_used,
          ap entry_count s.whole,
          entries-append s.pre (node ∷ s.post),
          entries_more node s.post,
          s.entries,
        )

    all_cells_in : p.cells + length (cells_in s.body) ≤ T.used.cells
    all_cells_in =
        let e = ap (λ x. length (all_cells x)) s.whole in
        omega (arith, h.cells_used, e, cells-append s.pre (node ∷ s.post), cells_more node s.post, s.cells)

    later : p.kind ≡ 1 → (k : ℕ) → p.row < k → k < T.used.nodes → p.cells + p.count ≤ row_cells T.sums k
    later e k lo hi = omega (arith, sum-cells k hi, earlier_cells k lo, (file_has s.body (s.kind ∙ e)).0, s.count)

    within : Within T p
    within = record {
      row = omega (arith, h.nodes_used, ap length s.whole ∙ length-append s.pre (node ∷ s.post), s.row);
      entries = omega (arith, all_entries);
      cells = omega (arith, all_cells_in);
      dir_entries = λ e. omega (arith, all_entries, (dir_has s.body (s.kind ∙ e)).0, s.count);
      file_cells = λ e. omega (arith, all_cells_in, (file_has s.body (s.kind ∙ e)).0, s.count);
      later_entries = λ e k lo hi. omega (arith, sum-entries k hi, earlier_entries k lo, (dir_has s.body (s.kind ∙ e)).0, s.count);
      later_cells = λ e k lo hi. later e k lo hi;
      gone_cells = λ e k lo hi.
          let n : ℕ = T.used.nodes in
          let a : row_cells (closed (2 * n) (2 * p.row) 2 T.sums) k ≡ row_cells T.sums (k + 1) =
          moved_down (2 * n) (2 * p.row) 2 (2 * k + 1) (2 * (k + 1) + 1) T.sums (omega arith)
          (omega (arith, bounds.sums_long, h.nodes_fit)) (omega arith) (omega arith, omega arith) in
          omega (arith, a, later e (k + 1) (omega arith) hi);
    }

pub in_bounds : (m room : ℕ) (t : Tree) (T : Tables) → Holds m room t T → Bounds m room T
in_bounds m room t T h = bounds h

pub in_range : (m room : ℕ) (t : Tree) (T : Tables) (i : ℕ) (p : Place) → Holds m room t T → Stands i t.nodes p → Within T p
in_range m room t T i p h s = within h s
