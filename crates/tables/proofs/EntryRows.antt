-- The entries of a directory and the cells of a file in their tables, whatever words follow: each is at its row, and a name is
-- found by its key.
use Rattle.std.proofs.Common.{◌≡◌, ℕ, ◌+◌, ◌*◌, ◌<◌, Bool, true, false, ltb, List, [], ◌∷◌, ◌++◌, length, get_or, take, drop, sym, refl, ap, ◌∙◌, subst, ap₂, inl, inr, append_assoc, arith, length-append, get_or-drop, get_or-take, drop-drop, drop_at}
use lib.Seq.{get_or_at}
use Rattle.std.specs.List.{flat_map}
use Rattle.std.proofs.lemmas.List.{drop_more, take-append-drop, length-take-le, get_or_append_left}
use Rattle.std.proofs.lemmas.Bool.{and_parts}
use Rattle.blocks.proofs.Joins.{joined_append, drop-row}
use Rattle.blocks.proofs.Words.{name_back}
use Rattle.model.specs.Tree.{Name, Entry, Node, same, find_node, find_name, entries, cells}
use Rattle.model.specs.Fs.{no_entry}
use Rattle.machine.proofs.Tables.{entries_is}
use Rattle.machine.specs.Tables.{name_key, entry_row, node_entries, entry_words, node_cells, cell_words, entry_from}
use Rattle.machine.specs.Fits.{every, ok_name, ok_entry, ok_node}
use Rattle.machine.proofs.Tables.{Short, short_name, length-entries, cells_are}
use Rattle.tables.specs.Lookup.{Place, entry_id, entry_key, name_row}
use Rattle.tables.specs.Stands.{Stands, EntryStands, NameLookedUp}
use Rattle.tables.proofs.Rows.{Hit, first_case}
use Rattle.tables.proofs.Keys.{same_decides, same_keys, every_at, none_named, name_past, name_here}
use Rattle.tables.proofs.Bodies.{own_entries, own_cells, dir_at, file_at}

-- the entries of the node at a place are names
pub ok_entries : (next : ℕ) (xs : List Node) (t : Node) (ys : List Node) → every (ok_node next) (xs ++ (t ∷ ys)) ≡ true →
    every (ok_entry next) (entries (t.body ∷ [])) ≡ true
unfolding every
ok_entries next [] t ys h =
    let p = and_parts (ok_node next t) (every (ok_node next) ys) h in
    (and_parts (ltb t.id next) (every (ok_entry next) (entries (t.body ∷ []))) p.0).1
ok_entries next (x ∷ xs) t ys h = ok_entries next xs t ys (and_parts (ok_node next x) (every (ok_node next) (xs ++ (t ∷ ys))) h).1

module _ {i : ℕ} {ts : List Node} {p : Place} (s : Stands i ts p) (y : List ℕ) where
  abbrev E : List Entry
  E = entries (find_node i ts)

  abbrev es : List ℕ
  es = entry_words ts ++ y

  abbrev rest : List ℕ
  rest = entry_words s.post ++ y

  around : es ≡ entry_words s.pre ++ (flat_map entry_row E ++ rest)
  around =
      ap (λ x. entry_words x ++ y) s.whole
      ∙ (ap (λ x. x ++ y) (joined_append node_entries s.pre (record { id = i; body = s.body } ∷ s.post))
      ∙ (ap (λ x. (entry_words s.pre ++ (flat_map entry_row x ++ entry_words s.post)) ++ y) (sym (own_entries s))
      ∙ simp append_assoc))

  -- what stands from the k-th entry on
  row_at : (k : ℕ) → k < length E →
      drop (16 * (p.entries + k)) es ≡ entry_row (get_or E k no_entry) ++ (flat_map entry_row (drop (k + 1) E) ++ rest)
  row_at k lt =
      let l : length (entry_words s.pre) ≡ 16 * p.entries = length-entries s.pre ∙ ap (λ x. 16 * x) s.entries in
      let z : 16 * (p.entries + k) ≡ 16 * p.entries + 16 * k = omega arith in
      ap₂ (λ n x. drop n x) z around ∙ drop-row 16 entry_row (λ e. refl) (entry_words s.pre) rest E (16 * p.entries) k no_entry l lt

  pub id_at : (k : ℕ) → k < length E → entry_id es (p.entries + k) ≡ (get_or E k no_entry).id
  id_at k lt =
      let z : 16 * (p.entries + k) ≡ 16 * (p.entries + k) + 0 = omega arith in
      ap (λ n. get_or es n 0) z ∙ (sym (get_or-drop (16 * (p.entries + k)) es 0 0) ∙ ap (λ x. get_or x 0 0) (row_at k lt))

  pub key_at : (k : ℕ) → k < length E → entry_key es (p.entries + k) ≡ name_key (get_or E k no_entry).name
  key_at k lt =
      ap (take 9) (sym (drop-drop 1 (16 * (p.entries + k)) es)) ∙ ap (λ x. take 9 (drop 1 x)) (row_at k lt)

  -- names that are names
  module _ (next : ℕ) (ok : every (ok_node next) ts ≡ true) where
    names_ok : every (ok_entry next) E ≡ true
    names_ok =
        let h : every (ok_node next) (s.pre ++ (record { id = i; body = s.body } ∷ s.post)) ≡ true =
        ap (every (ok_node next)) (sym s.whole) ∙ ok in
        ap (every (ok_entry next)) (own_entries s ∙ sym (entries_is s.body))
        ∙ ok_entries next s.pre (record { id = i; body = s.body }) s.post h

    pub entry_at : (k : ℕ) → k < length E → entry_from (drop (16 * (p.entries + k)) es) ≡ get_or E k no_entry
    entry_at k lt =
        let e : Entry = get_or E k no_entry in
        let o : Short e.name = short_name e.name (every_at next E k names_ok lt) in
        ap entry_from (row_at k lt)
        ∙ ap (λ (x : Name). record { name = x; id = e.id }) (name_back 8 e.name o.all_bytes o.short)

    module _ (n : Name) (ok-n : ok_name n ≡ true) where
      abbrev test : ℕ → Bool
      test k = same (name_key n) (entry_key es k)

      tested : (k : ℕ) (b : Bool) → k < length E → test (p.entries + k) ≡ b → same n (get_or E k no_entry).name ≡ b
      tested k b lt e =
          sym (same_keys n (get_or E k no_entry).name ok-n (every_at next E k names_ok lt))
          ∙ (ap (same (name_key n)) (sym (key_at k lt)) ∙ e)

      entry_stands : (j : ℕ) → Hit test (length E) p.entries j → EntryStands n E j
      entry_stands j h = record {
        pre = take j E;
        entry = get_or E j no_entry;
        post = drop (j + 1) E;
        whole = sym (take-append-drop j E) ∙ ap (λ x. take j E ++ x) (drop_more E j no_entry h.inside);
        first = none_named n (take j E) (λ k lt.
            let g : get_or (take j E) k no_entry ≡ get_or E k no_entry = get_or-take j E k no_entry (omega (arith, long)) in
            ap (λ (e : Entry). same n e.name) g ∙ tested k false (omega (arith, long, h.inside)) (h.before k (omega (arith, long))));
        named = sym ((same_decides n (get_or E j no_entry).name).0 (tested j true h.inside h.here));
        at = long;
      }
        where
          long : length (take j E) ≡ j
          long = length-take-le j E (let a = h.inside in omega arith)

      pub named_at : (j : ℕ) → EntryStands n E j → find_name n E ≡ entry_id es (p.entries + j) ∷ []
      named_at j a =
          let here : get_or E j no_entry ≡ a.entry =
          ap (λ x. get_or x j no_entry) a.whole ∙ get_or_at a.pre a.entry a.post no_entry j a.at in
          let lt : j < length E = let l = ap length a.whole ∙ length-append a.pre (a.entry ∷ a.post) in omega (arith, l, a.at) in
          ap (find_name n) a.whole
          ∙ (name_past n a.pre (a.entry ∷ a.post) a.first
          ∙ (name_here n a.entry a.post a.named
          ∙ ap (λ x. x ∷ []) (sym (id_at j lt ∙ ap (λ (e : Entry). e.id) here))))

      pub name_looked_up : p.kind ≡ 0 →
          NameLookedUp n E (name_row (name_key n) p.count p.entries es)
          (entry_id es (p.entries + name_row (name_key n) p.count p.entries es))
      name_looked_up k =
          subst (λ c. NameLookedUp n E (name_row (name_key n) c p.entries es)
          (entry_id es (p.entries + name_row (name_key n) c p.entries es)))
          (sym (dir_at s k).many) (elim (first_case test (length E) p.entries) [
            | inl q ↦ inl (q.0, none_named n E (λ j lt. tested j false lt (q.1 j lt)))
            | inr q ↦ inr (
              q.inside,
              entry_stands (name_row (name_key n) (length E) p.entries es) q,
              named_at (name_row (name_key n) (length E) p.entries es)
                  (entry_stands (name_row (name_key n) (length E) p.entries es) q),
            )
          ])

  -- the cells of a file
  pub cell_at : p.kind ≡ 1 → (o : ℕ) → o < p.count → get_or (cell_words ts ++ y) (p.cells + o) 0 ≡ get_or (cells (find_node i ts)) o 0
  cell_at k o lt =
      let C : List ℕ = cells (find_node i ts) in
      let P : List ℕ = cell_words s.pre in
      let R : List ℕ = cell_words s.post ++ y in
      let lp : length P ≡ p.cells = ap length (cells_are s.pre) ∙ s.cells in
      let w : cell_words ts ++ y ≡ P ++ (C ++ R) =
      ap (λ x. cell_words x ++ y) s.whole
      ∙ (ap (λ x. x ++ y) (joined_append node_cells s.pre (record { id = i; body = s.body } ∷ s.post))
      ∙ (ap (λ x. (P ++ (x ++ cell_words s.post)) ++ y) (sym (own_cells s)) ∙ simp append_assoc)) in
      let m = (file_at s k).many in
      sym (get_or-drop p.cells (cell_words ts ++ y) o 0)
      ∙ (ap (λ x. get_or (drop p.cells x) o 0) w
      ∙ (ap (λ x. get_or x o 0) (drop_at P (C ++ R) p.cells lp) ∙ get_or_append_left C R 0 o (omega arith)))
