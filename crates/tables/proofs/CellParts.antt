-- The cells of a node, from one on, are a part of the table of cells.
use Rattle.std.proofs.Common.{◌≡◌, ℕ, ◌+◌, ◌-◌, ◌≤◌, List, ◌∷◌, ◌++◌, length, take, drop, replicate, sym, ap, ◌∙◌, append_assoc, length-drop, take_at, drop_at}
use lib.Seq.{drop-append-le}
use Rattle.std.proofs.lemmas.List.{drop-drop}
use Rattle.blocks.specs.Words.{part}
use Rattle.blocks.proofs.Joins.{joined_append}
use Rattle.model.specs.Tree.{Tree, body_of, cells}
use Rattle.machine.specs.Tables.{node_cells, cell_words}
use Rattle.machine.proofs.Tables.{cells_are}
use Rattle.tables.specs.Lookup.{Place}
use Rattle.tables.specs.Edits.{Tables}
use Rattle.tables.specs.Stands.{Holds, Stands}
use Rattle.tables.proofs.Bodies.{own_cells}

-- the end of the middle one of three lists
middle_end : (A C R : List ℕ) (at k : ℕ) → length A ≡ at → k ≤ length C → part (at + k) (length C - k) (A ++ (C ++ R)) ≡ drop k C
middle_end A C R at k la le =
    let e1 : drop (at + k) (A ++ (C ++ R)) ≡ drop k (drop at (A ++ (C ++ R))) = sym (drop-drop k at (A ++ (C ++ R))) in
    let e2 : drop at (A ++ (C ++ R)) ≡ C ++ R = drop_at A (C ++ R) at la in
    let e3 : drop k (C ++ R) ≡ drop k C ++ R = drop-append-le k C R le in
    let e4 : take (length C - k) (drop k C ++ R) ≡ drop k C = take_at (drop k C) R (length C - k) (length-drop k C) in
    cc

pub cells_from : {m room : ℕ} {t : Tree} {T : Tables} → Holds m room t T → {i : ℕ} {p : Place} → Stands i t.nodes p →
    (k : ℕ) → k ≤ length (cells (body_of t i)) →
    part (p.cells + k) (length (cells (body_of t i)) - k) T.cells ≡ drop k (cells (body_of t i))
cells_from {m} {room} {t} {T} h {i} {p} s k le =
    let C : List ℕ = cells (body_of t i) in
    let A : List ℕ = cell_words s.pre in
    let G : List ℕ = cell_words s.post in
    let Z : List ℕ = replicate (room - length (cell_words t.nodes)) 0 in
    let e1 : cell_words t.nodes ≡ A ++ (C ++ G) =
    ap cell_words s.whole ∙ (joined_append node_cells s.pre (record { id = i; body = s.body } ∷ s.post)
    ∙ ap (λ x. A ++ (x ++ G)) (sym (own_cells s))) in
    let e2 : T.cells ≡ A ++ (C ++ (G ++ Z)) = h.cells ∙ (ap (λ x. x ++ Z) e1 ∙ simp append_assoc) in
    let la : length A ≡ p.cells = ap length (cells_are s.pre) ∙ s.cells in
    ap (part (p.cells + k) (length C - k)) e2 ∙ middle_end A C (G ++ Z) p.cells k la le
