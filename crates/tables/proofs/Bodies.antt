-- What the node at a place has: a directory its entries, a file its cells, as many as the place counts.
use Rattle.std.proofs.Common.{◌≡◌, ℕ, ◌≤◌, true, false, ◌⊎◌, List, [], ◌∷◌, length, sym, refl, ap, ◌∙◌, inl, inr, arith}
use Rattle.machine.proofs.Tables.{entries_is, cells_is}
use Rattle.model.specs.Tree.{Body, dir, file, Node, find_node, with_body, entries, cells, is_dir, is_file}
use Rattle.machine.specs.Tables.{kind_of, count_of, entries_in, cells_in}
use Rattle.tables.specs.Lookup.{Place}
use Rattle.tables.specs.Stands.{Stands, DirAt, FileAt}
use Rattle.tables.proofs.Nodes.{found, edited}

pub dir_has : (b : Body) → kind_of b ≡ 0 → (length (entries_in b) ≡ count_of b) × (cells_in b ≡ [])
dir_has (dir es) e = (refl, refl)
dir_has (file cs) e = absurd (omega arith)

pub file_has : (b : Body) → kind_of b ≡ 1 → (length (cells_in b) ≡ count_of b) × (entries_in b ≡ [])
file_has (file cs) e = (refl, refl)
file_has (dir es) e = absurd (omega arith)

dir_tests : (b : Body) → kind_of b ≡ 0 → (is_dir (b ∷ []) ≡ true) × (is_file (b ∷ []) ≡ false)
unfolding is_dir is_file
dir_tests (dir es) e = (refl, refl)
dir_tests (file cs) e = absurd (omega arith)

file_tests : (b : Body) → kind_of b ≡ 1 → (is_dir (b ∷ []) ≡ false) × (is_file (b ∷ []) ≡ true)
unfolding is_dir is_file
file_tests (file cs) e = (refl, refl)
file_tests (dir es) e = absurd (omega arith)

two_kinds : (b : Body) → (kind_of b ≡ 0) ⊎ (kind_of b ≡ 1)
two_kinds (dir es) = inl refl
two_kinds (file cs) = inr refl

module _ {i : ℕ} {ts : List Node} {p : Place} (s : Stands i ts p) where
  pub has_body : find_node i ts ≡ s.body ∷ []
  has_body = ap (find_node i) s.whole ∙ found i s.pre s.body s.post s.first

  pub has_then : (b : Body) → find_node i (with_body i b ts) ≡ b ∷ []
  has_then b =
      ap (find_node i) (ap (with_body i b) s.whole ∙ edited i s.pre s.body s.post s.first b)
      ∙ found i s.pre b s.post s.first

  pub own_entries : entries (find_node i ts) ≡ entries_in s.body
  own_entries = ap entries has_body ∙ entries_is s.body

  pub own_cells : cells (find_node i ts) ≡ cells_in s.body
  own_cells = ap cells has_body ∙ cells_is s.body

  pub dir_at : p.kind ≡ 0 → DirAt i ts p
  dir_at k =
      let e : kind_of s.body ≡ 0 = s.kind ∙ k in
      record {
        dir = ap is_dir has_body ∙ (dir_tests s.body e).0;
        no_file = ap is_file has_body ∙ (dir_tests s.body e).1;
        many = sym (ap length own_entries ∙ ((dir_has s.body e).0 ∙ s.count));
      }

  pub file_at : p.kind ≡ 1 → FileAt i ts p
  file_at k =
      let e : kind_of s.body ≡ 1 = s.kind ∙ k in
      record {
        no_dir = ap is_dir has_body ∙ (file_tests s.body e).0;
        file = ap is_file has_body ∙ (file_tests s.body e).1;
        many = sym (ap length own_cells ∙ ((file_has s.body e).0 ∙ s.count));
        no_entries = own_entries ∙ (file_has s.body e).1;
      }

  pub kind_read : ((p.kind ≡ 0) × DirAt i ts p) ⊎ ((p.kind ≡ 1) × FileAt i ts p)
  kind_read = elim (two_kinds s.body) [
    | inl e ↦ let k : p.kind ≡ 0 = sym s.kind ∙ e in inl (k, dir_at k)
    | inr e ↦ let k : p.kind ≡ 1 = sym s.kind ∙ e in inr (k, file_at k)
  ]

  pub kind_small : p.kind ≤ 1
  kind_small = elim kind_read [ inl e ↦ omega (arith, e.0) | inr e ↦ omega (arith, e.0) ]

  -- a node without entries counts its cells, of which a directory has none
  pub bare_count : entries (find_node i ts) ≡ [] → p.count ≡ length (cells (find_node i ts))
  bare_count none =
      elim (two_kinds s.body) [
        | inl e ↦ omega (
          arith,
          s.count,
          (dir_has s.body e).0,
          ap length (sym own_entries ∙ none),
          ap length (own_cells ∙ (dir_has s.body e).1),
        )
        | inr e ↦ sym (ap length own_cells ∙ ((file_has s.body e).0 ∙ s.count))
      ]
