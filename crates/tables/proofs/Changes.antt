-- Tables that hold a tree hold the tree after a change, too: an entry more or fewer, cells more or fewer, a node more or fewer.
use Rattle.std.proofs.Common.{◌≡◌, ℕ, suc, ◌+◌, ◌-◌, ◌*◌, ◌<◌, ◌≤◌, List, [], ◌∷◌, ◌++◌, length, take, drop, sym, refl, ap, ◌∙◌, subst, ap₂, append-nil, arith, length-append, length-drop}
use Rattle.std.specs.List.{flat_map}
use Rattle.std.proofs.lemmas.List.{length-take-le, length_push, take-append-drop}
use Rattle.blocks.specs.Words.{pad, opened, closed}
use Rattle.blocks.proofs.Joins.{joined_append, length_joined}
use Rattle.model.specs.Tree.{Name, Entry, Body, dir, file, Node, Tree, body_of, entries, cells, all_cells, with_body}
use Rattle.model.specs.Tree.{without_node, put_body, put_entry, drop_node}
use Rattle.machine.specs.State.{entry_count}
use Rattle.machine.specs.Tables.{kind_of, count_of, entries_in, cells_in, node_row, entry_row, node_words, node_entries}
use Rattle.machine.specs.Tables.{entry_words, node_cells, cell_words, sum_words}
use Rattle.machine.proofs.Tables.{length-nodes, length-entries, length-sums, entries-append, cells_are}
use Rattle.tables.specs.Lookup.{Place}
use Rattle.tables.specs.Edits.{Tables, shifted, lowered, counted, nodes_after, entered, left, grown, cut, added, gone}
use Rattle.tables.specs.Stands.{Holds, Stands}
use Rattle.tables.proofs.Splices.{opened_pad}
use Rattle.tables.proofs.Sums.{entries_more, cells_more, cells-append, sums-append}
use Rattle.tables.proofs.Nodes.{edited, dropped}
use Rattle.tables.proofs.Bodies.{dir_has, file_has, own_entries, own_cells}
use Rattle.tables.proofs.Parts.{put_in, taken_out, stays, gone_words, recounted, sums_edited, sums_gone, sums-gone-last}

module _ {m room : ℕ} {t : Tree} {T : Tables} (h : Holds m room t T) {i : ℕ} {p : Place} (s : Stands i t.nodes p) where
  abbrev ts : List Node
  ts = t.nodes

  abbrev was : Body
  was = s.body

  abbrev whole : Body → List Node
  whole b = s.pre ++ (record { id = i; body = b } ∷ s.post)

  after : (b : Body) → with_body i b ts ≡ whole b
  after b = ap (with_body i b) s.whole ∙ edited i s.pre was s.post s.first b

  -- how many of each there are
  many_nodes : (b : Body) → length (whole b) ≡ p.row + suc (length s.post)
  many_nodes b = length-append s.pre (record { id = i; body = b } ∷ s.post) ∙ ap (λ x. x + suc (length s.post)) s.row

  many_entries : (b : Body) → entry_count (whole b) ≡ p.entries + (length (entries_in b) + entry_count s.post)
  many_entries b =
      entries-append s.pre (record { id = i; body = b } ∷ s.post)
      ∙ ap₂ (λ x y. x + y) s.entries (entries_more (record { id = i; body = b }) s.post)

  many_cells : (b : Body) → length (all_cells (whole b)) ≡ p.cells + (length (cells_in b) + length (all_cells s.post))
  many_cells b =
      cells-append s.pre (record { id = i; body = b } ∷ s.post)
      ∙ ap₂ (λ x y. x + y) s.cells (cells_more (record { id = i; body = b }) s.post)

  used_nodes : T.used.nodes ≡ p.row + suc (length s.post)
  used_nodes = h.nodes_used ∙ (ap length s.whole ∙ many_nodes was)

  used_entries : T.used.entries ≡ p.entries + (length (entries_in was) + entry_count s.post)
  used_entries = h.entries_used ∙ (ap entry_count s.whole ∙ many_entries was)

  used_cells : T.used.cells ≡ p.cells + (length (cells_in was) + length (all_cells s.post))
  used_cells = h.cells_used ∙ (ap (λ x. length (all_cells x)) s.whole ∙ many_cells was)

  nodes_left : length s.post ≡ nodes_after p T
  nodes_left = let q = used_nodes in omega arith

  entry_length : length (entry_words (whole was)) ≡ 16 * T.used.entries
  entry_length = ap (λ x. length (entry_words x)) (sym s.whole) ∙ (length-entries ts ∙ ap (λ x. 16 * x) (sym h.entries_used))

  cell-length : length (cell_words (whole was)) ≡ T.used.cells
  cell-length = ap (λ x. length (cell_words x)) (sym s.whole) ∙ (ap length (cells_are ts) ∙ sym h.cells_used)

  -- the tables after a change of the body
  new_nodes : (b : Body) (k : ℕ) → kind_of was ≡ kind_of b → count_of b ≡ k →
      counted p k T.nodes ≡ pad (4 * m) (node_words (with_body i b ts))
  new_nodes b k kind count =
      ap₂ (λ x y. set-count x y) (h.nodes ∙ ap (λ x. pad (4 * m) (node_words x)) s.whole) (sym count)
      ∙ (recounted i s.pre was s.post b (4 * m) p.row s.row kind ∙ ap (λ x. pad (4 * m) (node_words x)) (sym (after b)))
    where
      set-count : List ℕ → ℕ → List ℕ
      set-count ns k = counted p k ns

  new_sums : (f g : ℕ → ℕ) (b : Body) →
      ((x : ℕ) → f (x + length (entries_in was)) ≡ x + length (entries_in b)) →
      ((x : ℕ) → g (x + length (cells_in was)) ≡ x + length (cells_in b)) →
      shifted f g (nodes_after p T) (p.row + 1) T.sums ≡ pad (2 * m) (sum_words 0 0 (with_body i b ts))
  new_sums f g b fs gs =
      ap (shifted f g (nodes_after p T) (p.row + 1)) (h.sums ∙ ap (λ x. pad (2 * m) (sum_words 0 0 x)) s.whole)
      ∙ (sums_edited i s.pre was s.post f g b (2 * m) p.row (nodes_after p T) s.row nodes_left fs gs
      ∙ ap (λ x. pad (2 * m) (sum_words 0 0 x)) (sym (after b)))

  same_entries : (b : Body) → entries_in was ≡ entries_in b → T.entries ≡ pad (16 * m) (entry_words (with_body i b ts))
  same_entries b e =
      h.entries ∙ (ap (λ x. pad (16 * m) (entry_words x)) s.whole
      ∙ (stays i s.pre was s.post node_entries b (16 * m) (ap (flat_map entry_row) e)
      ∙ ap (λ x. pad (16 * m) (entry_words x)) (sym (after b))))

  same_cells : (b : Body) → cells_in was ≡ cells_in b → T.cells ≡ pad room (cell_words (with_body i b ts))
  same_cells b e =
      h.cells ∙ (ap (λ x. pad room (cell_words x)) s.whole
      ∙ (stays i s.pre was s.post node_cells b room e ∙ ap (λ x. pad room (cell_words x)) (sym (after b))))

  -- and how many there are then
  nodes_many : (b : Body) → T.used.nodes ≡ length (with_body i b ts)
  nodes_many b = used_nodes ∙ sym (ap length (after b) ∙ many_nodes b)

  entries_many : (b : Body) → entry_count (with_body i b ts) ≡ p.entries + (length (entries_in b) + entry_count s.post)
  entries_many b = ap entry_count (after b) ∙ many_entries b

  cells_many : (b : Body) → length (all_cells (with_body i b ts)) ≡ p.cells + (length (cells_in b) + length (all_cells s.post))
  cells_many b = ap (λ x. length (all_cells x)) (after b) ∙ many_cells b

  -- ONE ENTRY MORE
  pub entered_holds : p.kind ≡ 0 → T.used.entries < m → (n : Name) (j : ℕ) →
      Holds m room (put_entry i n j t) (entered p (entry_row (record { name = n; id = j })) T)
  entered_holds k lt n j =
      subst (λ x. Holds m room (put_body i (dir (x ++ (e ∷ []))) t) (entered p (entry_row e) T)) (sym (own_entries s)) (record {
        nodes = new_nodes b (p.count + 1) (s.kind ∙ k) (more ∙ ap (λ x. x + 1) (has.0 ∙ s.count));
        sums = new_sums (λ x. x + 1) (λ x. x + 0) b (λ x. omega (arith, more)) (λ x. omega (arith, lc));
        entries =
            ap (opened (16 * T.used.entries) (16 * (p.entries + p.count)) (entry_row e))
            (h.entries ∙ ap (λ x. pad (16 * m) (entry_words x)) s.whole)
            ∙ (put_in i s.pre was s.post node_entries b (16 * m) (16 * T.used.entries) (16 * (p.entries + p.count)) J [] place
            entry_length (entry_row e) (sym (append-nil J)) (joined_append entry_row E (e ∷ [])) (omega arith)
            ∙ ap (λ x. pad (16 * m) (entry_words x)) (sym (after b)));
        cells = same_cells b has.1;
        next_id = h.next_id;
        nodes_used = nodes_many b;
        entries_used = omega (arith, entries_many b, used_entries, more);
        cells_used = omega (arith, cells_many b, used_cells, lc);
        nodes_fit = h.nodes_fit;
        entries_fit = omega arith;
        cells_fit = h.cells_fit;
      })
    where
      e : Entry
      e = record { name = n; id = j }

      E : List Entry
      E = entries_in was

      J : List ℕ
      J = flat_map entry_row E

      b : Body
      b = dir (E ++ (e ∷ []))

      has : (length (entries_in was) ≡ count_of was) × (cells_in was ≡ [])
      has = dir_has was (s.kind ∙ k)

      more : length (E ++ (e ∷ [])) ≡ length E + 1
      more = length_push E e

      lc : length (cells_in was) ≡ 0
      lc = ap length has.1

      place : length (flat_map node_entries s.pre) + length J ≡ 16 * (p.entries + p.count)
      place =
          let a = length-entries s.pre in
          let q = s.entries in
          let c = s.count in
          let l = length_joined 16 entry_row (λ x. refl) E in
          let d = has.0 in
          omega arith

  -- ONE ENTRY FEWER
  pub left_holds : p.kind ≡ 0 → (A : List Entry) (e : Entry) (B : List Entry) (j : ℕ) → entries_in was ≡ A ++ (e ∷ B) → length A ≡ j →
      Holds m room (put_body i (dir (A ++ B)) t) (left p j T)
  left_holds k A e B j split at = record {
    nodes = new_nodes b (p.count - 1) (s.kind ∙ k) (omega (arith, fewer, has.0, s.count));
    sums = new_sums (λ x. x - 1) (λ x. x - 0) b (λ x. omega (arith, fewer)) (λ x. omega (arith, lc));
    entries =
        ap (closed (16 * T.used.entries) (16 * (p.entries + j)) 16) (h.entries ∙ ap (λ x. pad (16 * m) (entry_words x)) s.whole)
        ∙ (taken_out i s.pre was s.post node_entries b (16 * m) (16 * T.used.entries) (16 * (p.entries + j))
        (flat_map entry_row A) (flat_map entry_row B) place entry_length (entry_row e) 16 refl
        (ap (flat_map entry_row) split ∙ joined_append entry_row A (e ∷ B)) (joined_append entry_row A B)
        (let f = h.entries_fit in omega arith)
        ∙ ap (λ x. pad (16 * m) (entry_words x)) (sym (after b)));
    cells = same_cells b has.1;
    next_id = h.next_id;
    nodes_used = nodes_many b;
    entries_used = omega (arith, entries_many b, used_entries, fewer);
    cells_used = omega (arith, cells_many b, used_cells, lc);
    nodes_fit = h.nodes_fit;
    entries_fit = let f = h.entries_fit in omega arith;
    cells_fit = h.cells_fit;
  }
    where
      b : Body
      b = dir (A ++ B)

      has : (length (entries_in was) ≡ count_of was) × (cells_in was ≡ [])
      has = dir_has was (s.kind ∙ k)

      lc : length (cells_in was) ≡ 0
      lc = ap length has.1

      fewer : length (entries_in was) ≡ suc (length (A ++ B))
      fewer =
          let a = ap length split ∙ length-append A (e ∷ B) in
          let c = length-append A B in
          omega arith

      place : length (flat_map node_entries s.pre) + length (flat_map entry_row A) ≡ 16 * (p.entries + j)
      place =
          let a = length-entries s.pre in
          let q = s.entries in
          let l = length_joined 16 entry_row (λ x. refl) A in
          omega arith

  -- MORE CELLS
  pub grown_holds : p.kind ≡ 1 → (new : List ℕ) → T.used.cells + length new ≤ room →
      Holds m room (put_body i (file (cells (body_of t i) ++ new)) t) (grown p new T)
  grown_holds k new fits =
      subst (λ x. Holds m room (put_body i (file (x ++ new)) t) (grown p new T)) (sym (own_cells s)) (record {
        nodes = new_nodes b (p.count + length new) (s.kind ∙ k) (omega (arith, more, has.0, s.count));
        sums = new_sums (λ x. x + 0) (λ x. x + length new) b (λ x. omega (arith, le)) (λ x. omega (arith, more));
        entries = same_entries b has.1;
        cells =
            ap (opened T.used.cells (p.cells + p.count) new) (h.cells ∙ ap (λ x. pad room (cell_words x)) s.whole)
            ∙ (put_in i s.pre was s.post node_cells b room T.used.cells (p.cells + p.count) C [] place cell-length new
            (sym (append-nil C)) (ap (λ x. C ++ x) (sym (append-nil new))) fits
            ∙ ap (λ x. pad room (cell_words x)) (sym (after b)));
        next_id = h.next_id;
        nodes_used = nodes_many b;
        entries_used = omega (arith, entries_many b, used_entries, le);
        cells_used = omega (arith, cells_many b, used_cells, more);
        nodes_fit = h.nodes_fit;
        entries_fit = h.entries_fit;
        cells_fit = fits;
      })
    where
      C : List ℕ
      C = cells_in was

      b : Body
      b = file (C ++ new)

      has : (length (cells_in was) ≡ count_of was) × (entries_in was ≡ [])
      has = file_has was (s.kind ∙ k)

      le : length (entries_in was) ≡ 0
      le = ap length has.1

      more : length (C ++ new) ≡ length C + length new
      more = length-append C new

      place : length (flat_map node_cells s.pre) + length C ≡ p.cells + p.count
      place = omega (arith, ap length (cells_are s.pre), s.cells, s.count, has.0)

  -- FEWER CELLS
  pub cut_holds : p.kind ≡ 1 → (n : ℕ) → n ≤ p.count →
      Holds m room (put_body i (file (take n (cells (body_of t i)))) t) (cut p n T)
  cut_holds k n few =
      subst (λ x. Holds m room (put_body i (file (take n x)) t) (cut p n T)) (sym (own_cells s)) (record {
        nodes = new_nodes b n (s.kind ∙ k) kept;
        sums = new_sums (λ x. x - 0) (λ x. x - (p.count - n)) b (λ x. omega (arith, le)) (λ x. omega (arith, kept, own));
        entries = same_entries b has.1;
        cells =
            ap (closed T.used.cells (p.cells + n) (p.count - n)) (h.cells ∙ ap (λ x. pad room (cell_words x)) s.whole)
            ∙ (taken_out i s.pre was s.post node_cells b room T.used.cells (p.cells + n) (take n C) [] place cell-length
            (drop n C) (p.count - n) (length-drop n C ∙ omega (arith, own)) parts (sym (append-nil (take n C))) h.cells_fit
            ∙ ap (λ x. pad room (cell_words x)) (sym (after b)));
        next_id = h.next_id;
        nodes_used = nodes_many b;
        entries_used = omega (arith, entries_many b, used_entries, le);
        cells_used = omega (arith, cells_many b, used_cells, kept, own);
        nodes_fit = h.nodes_fit;
        entries_fit = h.entries_fit;
        cells_fit = let f = h.cells_fit in omega arith;
      })
    where
      C : List ℕ
      C = cells_in was

      b : Body
      b = file (take n C)

      has : (length (cells_in was) ≡ count_of was) × (entries_in was ≡ [])
      has = file_has was (s.kind ∙ k)

      own : length C ≡ p.count
      own = has.0 ∙ s.count

      le : length (entries_in was) ≡ 0
      le = ap length has.1

      kept : length (take n C) ≡ n
      kept = length-take-le n C (omega (arith, own))

      parts : C ≡ take n C ++ (drop n C ++ [])
      parts = sym (ap (λ x. take n C ++ x) (append-nil (drop n C)) ∙ take-append-drop n C)

      place : length (flat_map node_cells s.pre) + length (take n C) ≡ p.cells + n
      place = omega (arith, ap length (cells_are s.pre), s.cells, kept)

  -- A NODE FEWER
  less : without_node i ts ≡ s.pre ++ s.post
  less = ap (without_node i) s.whole ∙ dropped i s.pre was s.post s.first

  empty_count : (b : Body) → length (entries_in b) ≡ 0 → length (cells_in b) ≡ count_of b
  empty_count (dir es) e = sym e
  empty_count (file cs) e = refl

  pub gone_holds : entries (body_of t i) ≡ [] → Holds m room (drop_node i t) (gone p T)
  gone_holds none = record {
    nodes =
        ap (closed (4 * T.used.nodes) (4 * p.row) 4) (h.nodes ∙ ap (λ x. pad (4 * m) (node_words x)) s.whole)
        ∙ (gone_words i s.pre was s.post node_row (4 * m) (4 * T.used.nodes) (4 * p.row) 4
        (length-nodes s.pre ∙ ap (λ x. 4 * x) s.row)
        (length-nodes (whole was) ∙ ap (λ x. 4 * x) (many_nodes was ∙ sym used_nodes)) refl (let f = h.nodes_fit in omega arith)
        ∙ ap (λ x. pad (4 * m) (node_words x)) (sym less));
    sums =
        ap (λ x. shifted (λ y. y - 0) (λ y. y - p.count) (nodes_after p T) p.row (closed (2 * T.used.nodes) (2 * p.row) 2 x))
        (h.sums ∙ ap (λ x. pad (2 * m) (sum_words 0 0 x)) s.whole)
        ∙ (sums_gone i s.pre was s.post (λ y. y - 0) (λ y. y - p.count) (2 * m) T.used.nodes p.row (nodes_after p T)
        s.row
        nodes_left (omega (arith, used_nodes)) (let f = h.nodes_fit in omega arith) (λ x. omega (arith, le)) (λ x. omega (arith, lc))
        ∙ ap (λ x. pad (2 * m) (sum_words 0 0 x)) (sym less));
    entries =
        h.entries ∙ (ap (λ x. pad (16 * m) (entry_words x)) s.whole
        ∙ ap (pad (16 * m)) (joined_append node_entries s.pre (record { id = i; body = was } ∷ s.post)
        ∙ (ap (λ x. entry_words s.pre ++ (flat_map entry_row x ++ entry_words s.post)) no_entries
        ∙ (sym (joined_append node_entries s.pre s.post) ∙ ap entry_words (sym less)))));
    cells =
        ap (closed T.used.cells p.cells p.count) (h.cells ∙ ap (λ x. pad room (cell_words x)) s.whole)
        ∙ (gone_words i s.pre was s.post node_cells room T.used.cells p.cells p.count
        (ap length (cells_are s.pre) ∙ s.cells) cell-length lc h.cells_fit
        ∙ ap (λ x. pad room (cell_words x)) (sym less));
    next_id = h.next_id;
    nodes_used = let a = ap length less ∙ length-append s.pre s.post in omega (arith, a, used_nodes, s.row);
    entries_used = let a = ap entry_count less ∙ entries-append s.pre s.post in omega (arith, a, used_entries, s.entries, le);
    cells_used =
        let a = ap (λ x. length (all_cells x)) less ∙ cells-append s.pre s.post in omega (arith, a, used_cells, s.cells, lc);
    nodes_fit = let f = h.nodes_fit in omega arith;
    entries_fit = h.entries_fit;
    cells_fit = let f = h.cells_fit in omega arith;
  }
    where
      no_entries : entries_in was ≡ []
      no_entries = sym (own_entries s) ∙ none

      le : length (entries_in was) ≡ 0
      le = ap length no_entries

      lc : length (cells_in was) ≡ p.count
      lc = empty_count was le ∙ s.count

  -- the sums may be lowered before the row goes
  pub gone_sums : entries (body_of t i) ≡ [] →
      closed (2 * T.used.nodes) (2 * p.row) 2 (lowered 0 p.count (nodes_after p T) (p.row + 1) T.sums) ≡ (gone p T).sums
  gone_sums none =
      let le : length (entries_in was) ≡ 0 = ap length (sym (own_entries s) ∙ none) in
      let lc : length (cells_in was) ≡ p.count = empty_count was le ∙ s.count in
      ap (λ x. closed (2 * T.used.nodes) (2 * p.row) 2 (lowered 0 p.count (nodes_after p T) (p.row + 1) x))
      (h.sums ∙ ap (λ x. pad (2 * m) (sum_words 0 0 x)) s.whole)
      ∙ (sums-gone-last i s.pre was s.post (λ y. y - 0) (λ y. y - p.count) (2 * m) T.used.nodes p.row (nodes_after p T)
      s.row nodes_left (omega (arith, used_nodes)) (let f = h.nodes_fit in omega arith) (λ x. omega arith) (λ x. omega arith)
      ∙ (ap (λ x. pad (2 * m) (sum_words 0 0 x)) (sym less) ∙ sym (gone_holds none).sums))

-- A NODE MORE, last, with nothing in it
pub added_holds : {m room : ℕ} {t : Tree} {T : Tables} → Holds m room t T → T.used.nodes < m → (b : Body) → entries_in b ≡ [] →
    cells_in b ≡ [] →
    Holds m room (record { nodes = t.nodes ++ (record { id = t.next; body = b } ∷ []); next = suc t.next }) (added (kind_of b) T)
unfolding entry_count all_cells
added_holds {m} {room} {t} {T} h lt b no_entries no_cells = record {
  nodes =
      ap₂ (λ x y. opened (4 * T.used.nodes) (4 * T.used.nodes) x y) row (h.nodes ∙ ap (pad (4 * m)) (sym (append-nil N)))
      ∙ (opened_pad (4 * m) (4 * T.used.nodes) (4 * T.used.nodes) N [] (node_row one) ln (omega arith) (omega arith)
      ∙ ap (pad (4 * m)) (sym (joined_append node_row ts (one ∷ []))));
  sums =
      ap₂ (λ x y. opened (2 * T.used.nodes) (2 * T.used.nodes) x y) pair (h.sums ∙ ap (pad (2 * m)) (sym (append-nil S)))
      ∙ (opened_pad (2 * m) (2 * T.used.nodes) (2 * T.used.nodes) S []
      (sum_words (0 + entry_count ts) (0 + length (all_cells ts)) (one ∷ []))
      ls (omega arith) (omega arith)
      ∙ ap (pad (2 * m)) (sym (sums-append 0 0 ts (one ∷ []))));
  entries =
      h.entries ∙ ap (pad (16 * m)) (sym (joined_append node_entries ts (one ∷ [])
      ∙ (ap (λ x. entry_words ts ++ (flat_map entry_row x ++ [])) no_entries ∙ append-nil (entry_words ts))));
  cells =
      h.cells ∙ ap (pad room) (sym (joined_append node_cells ts (one ∷ [])
      ∙ (ap (λ x. cell_words ts ++ (x ++ [])) no_cells ∙ append-nil (cell_words ts))));
  next_id = let a = h.next_id in omega arith;
  nodes_used = let a = h.nodes_used in sym (length_push ts one ∙ sym (ap (λ x. x + 1) a));
  entries_used = omega (arith, h.entries_used, entries-append ts (one ∷ []), entries_one);
  cells_used = omega (arith, h.cells_used, cells-append ts (one ∷ []), cells_one);
  nodes_fit = omega arith;
  entries_fit = h.entries_fit;
  cells_fit = h.cells_fit;
}
  where
    ts : List Node
    ts = t.nodes

    one : Node
    one = record { id = t.next; body = b }

    N : List ℕ
    N = node_words ts

    S : List ℕ
    S = sum_words 0 0 ts

    no_count : (a : Body) → entries_in a ≡ [] → cells_in a ≡ [] → count_of a ≡ 0
    no_count (dir es) e c = ap length e
    no_count (file cs) e c = ap length c

    row : T.used.next ∷ kind_of b ∷ 0 ∷ 0 ∷ [] ≡ node_row one
    row = ap₂ (λ x y. x ∷ kind_of b ∷ y ∷ 0 ∷ []) h.next_id (sym (no_count b no_entries no_cells))

    pair : T.used.entries ∷ T.used.cells ∷ [] ≡ sum_words (0 + entry_count ts) (0 + length (all_cells ts)) (one ∷ [])
    pair =
        let a = h.entries_used in
        let c = h.cells_used in
        let x : T.used.entries ≡ 0 + entry_count ts = omega arith in
        let y : T.used.cells ≡ 0 + length (all_cells ts) = omega arith in
        ap₂ (λ u v. u ∷ v ∷ []) x y

    ln : length N ≡ 4 * T.used.nodes
    ln = length-nodes ts ∙ ap (λ x. 4 * x) (sym h.nodes_used)

    ls : length S ≡ 2 * T.used.nodes
    ls = length-sums 0 0 ts ∙ ap (λ x. 2 * x) (sym h.nodes_used)

    entries_one : entry_count (one ∷ []) ≡ 0
    entries_one = entries_more one [] ∙ ap (λ x. length x + entry_count []) no_entries

    cells_one : length (all_cells (one ∷ [])) ≡ 0
    cells_one = cells_more one [] ∙ ap (λ x. length x + length (all_cells [])) no_cells
