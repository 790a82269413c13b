-- Tables from which an entry of a directory went: where the other nodes stand in them, and what they have.
use Rattle.std.proofs.Common.{◌≡◌, ℕ, ◌+◌, ◌<◌, ◌≤◌, Bool, true, false, eqb, List, [], ◌∷◌, length, sym, refl, ap, ◌∙◌, subst, inl, inr, arith, length-append}
use Rattle.std.proofs.lemmas.Bool.{eq-eqb, eqb-true, true≢false}
use Rattle.model.specs.Tree.{Name, Entry, dir, Node, Tree, find_node, body_of, is_dir, entries, without_name, with_body, drop_entry}
use Rattle.model_facts.proofs.Nodes.{find_with_other}
use Rattle.tables.specs.Lookup.{Place, place_at}
use Rattle.tables.specs.Edits.{Tables, left}
use Rattle.tables.specs.Stands.{Holds, Stands, EntryStands}
use Rattle.tables.proofs.Bodies.{has_then, dir_at, kind_read}
use Rattle.tables.proofs.Held.{stands_after}
use Rattle.tables.proofs.Ranges.{in_range}
use Rattle.tables.proofs.Operations.{dropped_holds}
use Rattle.change.specs.Given.{AtRow, Held}

-- the cells of a node without entries
pub own_cells_used : {m room : ℕ} {t : Tree} {T : Tables} → Holds m room t T → {i : ℕ} {q : Place} → Stands i t.nodes q →
    entries (body_of t i) ≡ [] → q.cells + q.count ≤ T.used.cells
own_cells_used h s none =
    let w = in_range _ _ _ _ _ _ h s in
    elim (kind_read s) [
      | inl e ↦ omega (arith, w.cells, e.1.many, ap length none)
      | inr e ↦ w.file_cells e.0
    ]

-- a directory is one still after another body was put for a directory, there or elsewhere
pub still_dir : {d e : ℕ} {ts : List Node} {p q r : Place} (es : List Entry) → Stands d ts p → Stands e ts q → q.kind ≡ 0 →
    Stands e (with_body d (dir es) ts) r → r.kind ≡ 0
unfolding is_dir
still_dir {d} {e} {ts} es s to is after =
    elim (kind_read after) [
      | inl k ↦ k.0
      | inr k ↦ absurd (no_file (eqb e d) refl k.1.no_dir)
    ]
  where
    no_file : (x : Bool) → eqb e d ≡ x → is_dir (find_node e (with_body d (dir es) ts)) ≡ false → ⊥
    no_file true same none =
        let i = eqb-true e d same in
        let a = ap (λ x. is_dir (find_node x (with_body d (dir es) ts))) i ∙ ap is_dir (has_then s (dir es)) in
        true≢false (sym a ∙ none)
    no_file false other none =
        let ne : e ≡ d → ⊥ = λ i. true≢false (sym (eq-eqb e d i) ∙ other) in
        let a = ap is_dir (find_with_other e d (dir es) ts ne) ∙ (dir_at to is).dir in
        true≢false (sym a ∙ none)

module _ {T : Tables} {p : Place} (g : Held T p) (is : p.kind ≡ 0) {n : Name} {j : ℕ}
    (a : EntryStands n (entries (body_of g.tree g.id)) j) where
  pub index_low : j < p.count
  index_low =
      let l = ap length a.whole ∙ length-append a.pre (a.entry ∷ a.post) in
      omega (arith, l, a.at, (dir_at g.stands is).many)

  -- a node without entries is another one, and has none
  pub none_still : (i : ℕ) → entries (body_of g.tree i) ≡ [] → entries (body_of (drop_entry g.id n g.tree) i) ≡ []
  none_still i none =
      let other : i ≡ g.id → ⊥ = λ e.
      let z = ap (λ x. length (entries (body_of g.tree x))) (sym e) ∙ ap length none in
      omega (arith, z, index_low, (dir_at g.stands is).many) in
      ap entries (find_with_other i g.id (dir (without_name n (entries (body_of g.tree g.id)))) g.tree.nodes other) ∙ none

  -- tables after it
  module _ {U : Tables} (e : U ≡ left p j T) where
    pub left_for : Holds g.most g.room (drop_entry g.id n g.tree) U
    left_for =
        subst (Holds g.most g.room (drop_entry g.id n g.tree)) (sym e) (dropped_holds g.holds g.stands is n j a)

    -- a node at a row stands there
    pub stood : {i row : ℕ} → AtRow i g.tree row →
        Stands i (drop_entry g.id n g.tree).nodes (place_at row U.nodes U.sums)
    stood {i} {row} at =
        subst (λ k. Stands i (drop_entry g.id n g.tree).nodes (place_at k U.nodes U.sums)) at.at
        (stands_after g.most g.room g.tree g.id (dir (without_name n (entries (body_of g.tree g.id)))) U i
        at.place left_for at.stands)
