-- What is read of tables that hold a tree is the tree's; and the tables of a tree that fits hold it.
use Rattle.std.proofs.Common.{◌≡◌, ℕ, ◌+◌, ◌-◌, ◌*◌, List, length, get_or, drop, replicate, sym, refl, ap, ◌∙◌, subst, ap₂, arith}
use Rattle.blocks.specs.Words.{pad}
use Rattle.model.specs.Tree.{Body, Node, Tree, body_of, entries, cells, put_body}
use Rattle.model.specs.Refusals.{Limits}
use Rattle.machine.specs.State.{Counts, counts_of}
use Rattle.machine.specs.Tables.{name_key, node_words, sum_words, entry_words, cell_words, entry_from}
use Rattle.machine.specs.Fits.{Fits}
use Rattle.machine.proofs.Fits.{cells_few}
use Rattle.tables.specs.Lookup.{Ascends, Place, place_at, place_of, entry_id, entry_key, name_row}
use Rattle.tables.specs.Edits.{Tables}
use Rattle.tables.specs.Stands.{tables_of, Holds, Stands, LookedUp, NameLookedUp, Readable}
use Rattle.tables.proofs.NodeRows.{looked_up, rows_ascend, stands_with}
use Rattle.tables.proofs.EntryRows.{id_at, key_at, entry_at, name_looked_up, cell_at}

-- what follows a tree's words in a table
abbrev zeros : ℕ → List ℕ → List ℕ
zeros n ws = replicate (n - length ws) 0

pub readable : (m room : ℕ) (t : Tree) (T : Tables) → Holds m room t T → Readable t T
readable m room t T h = record {
  node = λ i.
      subst (λ n. LookedUp i ts (place_of i n T.nodes T.sums)) (sym h.nodes_used)
      (subst (λ ns. LookedUp i ts (place_of i (length ts) ns T.sums)) (sym h.nodes)
      (subst (λ ss. LookedUp i ts (place_of i (length ts) (pad (4 * m) (node_words ts)) ss)) (sym h.sums)
      (looked_up ts (zeros (4 * m) (node_words ts)) (zeros (2 * m) (sum_words 0 0 ts)) i)));
  ascends = λ up.
      subst (λ n. Ascends n T.nodes) (sym h.nodes_used)
      (subst (Ascends (length ts)) (sym h.nodes) (rows_ascend ts (zeros (4 * m) (node_words ts)) up));
  id = λ i p k s lt.
      ap (λ es. entry_id es (p.entries + k)) h.entries ∙ id_at s Z k lt;
  key = λ i p k s lt.
      ap (λ es. entry_key es (p.entries + k)) h.entries ∙ key_at s Z k lt;
  entry = λ i p k s ok lt.
      ap (λ es. entry_from (drop (16 * (p.entries + k)) es)) h.entries ∙ entry_at s Z t.next ok k lt;
  name = λ i p n s ok ok-n kind.
      subst (λ es. NameLookedUp n (entries (body_of t i)) (name_row (name_key n) p.count p.entries es)
      (entry_id es (p.entries + name_row (name_key n) p.count p.entries es))) (sym h.entries)
      (name_looked_up s Z t.next ok n ok-n kind);
  cell = λ i p o s kind lt.
      ap (λ cs. get_or cs (p.cells + o) 0) h.cells ∙ cell_at s (zeros room (cell_words ts)) kind o lt;
}
  where
    ts : List Node
    ts = t.nodes

    Z : List ℕ
    Z = zeros (16 * m) (entry_words ts)

-- a node stands at the row where it stood after another body was put, there or elsewhere
pub stands_after : (m room : ℕ) (t : Tree) (d : ℕ) (b : Body) (T : Tables) (i : ℕ) (p : Place) → Holds m room (put_body d b t) T →
    Stands i t.nodes p → Stands i (put_body d b t).nodes (place_at p.row T.nodes T.sums)
stands_after m room t d b T i p h s =
    let ts : List Node = (put_body d b t).nodes in
    subst (λ ns. Stands i ts (place_at p.row ns T.sums)) (sym h.nodes)
    (subst (λ ss. Stands i ts (place_at p.row (pad (4 * m) (node_words ts)) ss)) (sym h.sums)
    (stands_with d b t.nodes (zeros (4 * m) (node_words ts)) (zeros (2 * m) (sum_words 0 0 ts)) i p s))

-- tables that hold a tree are its tables; and a tree that fits is held
same_counts : (a b : Counts) → a.next ≡ b.next → a.nodes ≡ b.nodes → a.entries ≡ b.entries → a.cells ≡ b.cells → a ≡ b
same_counts a b next nodes entries cells =
    ap₂ (λ (x y : ℕ). record { next = x; nodes = y; entries = a.entries; cells = a.cells }) next nodes
    ∙ ap₂ (λ (x y : ℕ). record { next = b.next; nodes = b.nodes; entries = x; cells = y }) entries cells

same_tables : (A B : Tables) → A.nodes ≡ B.nodes → A.sums ≡ B.sums → A.entries ≡ B.entries → A.cells ≡ B.cells →
    A.used ≡ B.used → A ≡ B
same_tables A B nodes sums entries cells used =
    ap₂ (λ (x y : List ℕ). record { nodes = x; sums = y; entries = A.entries; cells = A.cells; used = A.used }) nodes sums
    ∙ (ap₂ (λ (x y : List ℕ). record { nodes = B.nodes; sums = B.sums; entries = x; cells = y; used = A.used }) entries cells
    ∙ ap (λ (x : Counts). record { nodes = B.nodes; sums = B.sums; entries = B.entries; cells = B.cells; used = x }) used)

pub holds_is : (m room : ℕ) (t : Tree) (T : Tables) → Holds m room t T → T ≡ tables_of m room t
holds_is m room t T h =
    same_tables T (tables_of m room t) h.nodes h.sums h.entries h.cells
    (same_counts T.used (counts_of t) h.next_id h.nodes_used h.entries_used h.cells_used)

pub holds_fits : (l : Limits) (t : Tree) → Fits l t → Holds l.nodes_most l.room t (tables_of l.nodes_most l.room t)
holds_fits l t f = record {
  nodes = refl;
  sums = refl;
  entries = refl;
  cells = refl;
  next_id = refl;
  nodes_used = refl;
  entries_used = refl;
  cells_used = refl;
  nodes_fit = f.few;
  entries_fit = let a = f.few in let b = f.named_few in omega arith;
  cells_fit = cells_few l t f;
}
