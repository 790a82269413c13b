-- What the tree's operations change, by the tables: an entry that is dropped by its name, a node made, a node removed, a file
-- that gets another size.
use Rattle.std.proofs.Common.{◌≡◌, ℕ, ◌+◌, ◌-◌, ◌<◌, ◌≤◌, List, [], ◌∷◌, ◌++◌, length, take, sym, ap, ◌∙◌, subst, append_assoc, append-nil, arith, length-append, take_all}
use Rattle.model.specs.Tree.{Name, Body, dir, file, Node, Tree, body_of, entries, cells, without_name, named, put_body}
use Rattle.model.specs.Tree.{put_entry, drop_entry, made, removed, without_any, moved}
use Rattle.model_facts.proofs.Nodes.{find_with_other}
use Rattle.machine.specs.Tables.{kind_of, entries_in, cells_in, entry_row}
use Rattle.tables.specs.Lookup.{Place}
use Rattle.tables.specs.Edits.{Tables, entered, left, grown, cut, added, gone, made_in}
use Rattle.tables.specs.Stands.{Holds, Stands, EntryStands}
use Rattle.tables.proofs.Keys.{entry_gone}
use Rattle.tables.proofs.Bodies.{own_entries, file_at}
use Rattle.tables.proofs.Changes.{entered_holds, left_holds, grown_holds, cut_holds, added_holds, gone_holds}

-- a node stands where it stood when another comes last
pub stands_before : {i : ℕ} {ts : List Node} {p : Place} (x : Node) → Stands i ts p → Stands i (ts ++ (x ∷ [])) p
stands_before {i} x s = record {
  pre = s.pre;
  body = s.body;
  post = s.post ++ (x ∷ []);
  whole = ap (λ y. y ++ (x ∷ [])) s.whole ∙ append_assoc s.pre (record { id = i; body = s.body } ∷ s.post) (x ∷ []);
  first = s.first;
  row = s.row;
  kind = s.kind;
  count = s.count;
  entries = s.entries;
  cells = s.cells;
}

module _ {m room : ℕ} {t : Tree} {T : Tables} (h : Holds m room t T) {d : ℕ} {p : Place} (s : Stands d t.nodes p) where
  pub dropped_holds : p.kind ≡ 0 → (n : Name) (j : ℕ) → EntryStands n (entries (body_of t d)) j →
      Holds m room (drop_entry d n t) (left p j T)
  dropped_holds k n j a =
      subst (λ x. Holds m room (put_body d (dir x) t) (left p j T)) (sym (entry_gone n (entries (body_of t d)) j a))
      (left_holds h s k a.pre a.entry a.post j (sym (own_entries s) ∙ a.whole) a.at)

  pub made_holds : p.kind ≡ 0 → T.used.nodes < m → T.used.entries < m → (n : Name) (b : Body) → entries_in b ≡ [] → cells_in b ≡ [] →
      Holds m room (made d n b t) (made_in p n (kind_of b) T)
  made_holds k few_nodes few_entries n b no_entries no_cells =
      subst (λ i. Holds m room (made d n b t) (entered p (entry_row (record { name = n; id = i })) (added (kind_of b) T)))
      (sym h.next_id)
      (entered_holds (added_holds h few_nodes b no_entries no_cells) (stands_before (record { id = t.next; body = b }) s) k few_entries n
      t.next)

  -- a directory with an entry is not one without
  pub not_empty : (n : Name) (j i : ℕ) → EntryStands n (entries (body_of t d)) j → entries (body_of t i) ≡ [] → i ≡ d → ⊥
  not_empty n j i a none e =
      let l = ap length a.whole ∙ length-append a.pre (a.entry ∷ a.post) in
      let z : length (entries (body_of t d)) ≡ 0 = ap (λ x. length (entries (body_of t x))) (sym e) ∙ ap length none in
      omega arith

  pub removed_holds : p.kind ≡ 0 → (n : Name) (j i : ℕ) (q : Place) → EntryStands n (entries (body_of t d)) j →
      entries (body_of t i) ≡ [] → Stands i (drop_entry d n t).nodes q → Holds m room (removed d n i t) (gone q (left p j T))
  removed_holds k n j i q a none r =
      gone_holds (dropped_holds k n j a) r
      (ap entries (find_with_other i d (dir (without_name n (entries (body_of t d)))) t.nodes (not_empty n j i a none)) ∙ none)

  pub grown_to : p.kind ≡ 1 → (n : ℕ) (new : List ℕ) → p.count ≤ n → T.used.cells + length new ≤ room →
      Holds m room (put_body d (file (take n (cells (body_of t d)) ++ new)) t) (grown p new T)
  grown_to k n new more fits =
      let l = (file_at s k).many in
      subst (λ x. Holds m room (put_body d (file (x ++ new)) t) (grown p new T)) (sym (take_all n (cells (body_of t d)) (omega arith)))
      (grown_holds h s k new fits)

  pub cut_to : p.kind ≡ 1 → (n : ℕ) → n ≤ p.count → Holds m room (put_body d (file (take n (cells (body_of t d)) ++ [])) t) (cut p n T)
  cut_to k n few =
      subst (λ x. Holds m room (put_body d (file x) t) (cut p n T)) (sym (append-nil (take n (cells (body_of t d)))))
      (cut_holds h s k n few)

-- a node renamed, where nothing has the new name any more
pub moved_holds : {m room : ℕ} (t s : Tree) (T : Tables) (d : ℕ) (p : Place) (n : Name) (e : ℕ) (q : Place) (k : Name) (i j : ℕ) →
    without_any e k (named t e k) t ≡ s → Holds m room s T → Stands d s.nodes p → p.kind ≡ 0 →
    EntryStands n (entries (body_of s d)) j → Stands e (drop_entry d n s).nodes q → q.kind ≡ 0 →
    Holds m room (moved d n e k i t) (entered q (entry_row (record { name = k; id = i })) (left p j T))
moved_holds {m} {room} t s T d p n e q k i j is h at kind a to kind2 =
    subst (λ x. Holds m room (put_entry e k i (drop_entry d n x)) (entered q (entry_row (record { name = k; id = i })) (left p j T)))
    (sym is)
    (entered_holds (dropped_holds h at kind n j a) to kind2 room_left k i)
  where
    room_left : T.used.entries - 1 < m
    room_left =
        let l = ap length at.whole ∙ length-append at.pre (record { id = d; body = at.body } ∷ at.post) in
        let u = h.nodes_used in
        let f = h.nodes_fit in
        let g = h.entries_fit in
        omega arith
