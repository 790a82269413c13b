-- Which data blocks a tree has, as bits: cells that come in are marked, cells that go are unmarked, as none is there twice.
use Rattle.std.proofs.Common.{◌≡◌, ℕ, zero, suc, ◌+◌, ◌≤◌, Bool, true, false, ◌||◌, eqb, List, [], ◌∷◌, ◌++◌, take, drop, set, sym, refl, ap, ◌∙◌, ap₂, append_assoc, append-nil, arith, take_all}
use Rattle.std.proofs.lemmas.List.{take-append-drop}
use Rattle.std.proofs.lemmas.Bool.{ne_eqb, eqb-false, or_parts, or_from}
use Rattle.blocks.proofs.Joins.{joined_append}
use Rattle.model.specs.Tree.{Entry, Body, dir, file, Node, Tree, body_of, cells, all_cells, with_body, without_node, put_body, drop_node}
use Rattle.model.specs.Refusals.{Limits}
use Rattle.model.specs.Fs.{is_in}
use Rattle.model.specs.Laws.{cell_twice}
use Rattle.machine.specs.State.{marks, marked, own}
use Rattle.machine.specs.Tables.{cells_in, node_cells}
use Rattle.machine.proofs.Tables.{cells_are}
use Rattle.machine.proofs.Lists.{in_append}
use Rattle.machine.proofs.Counting.{marks_same, marked_marks}
use Rattle.tables.specs.Lookup.{Place}
use Rattle.tables.specs.Own.{unmarked}
use Rattle.tables.specs.Stands.{Stands}
use Rattle.tables.proofs.Nodes.{edited, dropped}
use Rattle.tables.proofs.Bodies.{own_cells, dir_has, file_at}

-- marks from a number on
marks_agree : (r k : ℕ) (xs ys : List ℕ) → ((c : ℕ) → k ≤ c → is_in c xs ≡ is_in c ys) → marks r k xs ≡ marks r k ys
unfolding marks
marks_agree zero k xs ys f = refl
marks_agree (suc r) k xs ys f = ap₂ (λ x y. x ∷ y) (f k (omega arith)) (marks_agree r (suc k) xs ys (λ c le. f c (omega arith)))

unmark : (r k i x : ℕ) (xs ys : List ℕ) → x ≡ k + i → ((c : ℕ) → (c ≡ x → ⊥) → is_in c xs ≡ is_in c ys) → is_in x ys ≡ false →
    set (marks r k xs) i false ≡ marks r k ys
unfolding marks
unmark zero k i x xs ys e f g = refl
unmark (suc r) k zero x xs ys e f g =
    let z : x ≡ k = omega arith in
    ap₂ (λ b bs. b ∷ bs) (sym (ap (λ c. is_in c ys) (sym z) ∙ g)) (marks_agree r (suc k) xs ys (λ c le. f c (λ q. omega arith)))
unmark (suc r) k (suc i) x xs ys e f g =
    ap₂ (λ b bs. b ∷ bs) (f k (λ q. omega arith)) (unmark r (suc k) i x xs ys (omega arith) f g)

-- what is there once
once : (A : List ℕ) (d : ℕ) (R : List ℕ) → cell_twice (A ++ (d ∷ R)) ≡ false → (is_in d (A ++ R) ≡ false) × (cell_twice (A ++ R) ≡ false)
unfolding cell_twice is_in
once [] d R h = or_parts (is_in d R) (cell_twice R) h
once (a ∷ A) d R h =
    let p = or_parts (is_in a (A ++ (d ∷ R))) (cell_twice (A ++ (d ∷ R))) h in
    let q = once A d R p.1 in
    let u = or_parts (is_in a A) (is_in a (d ∷ R)) (sym (in_append a A (d ∷ R)) ∙ p.0) in
    let v = or_parts (eqb a d) (is_in a R) u.1 in
    let w : eqb d a ≡ false = ne_eqb d a (λ e. eqb-false a d v.0 (sym e)) in (
      or_from (eqb d a) (is_in d (A ++ R)) w q.0,
      or_from (is_in a (A ++ R)) (cell_twice (A ++ R)) (in_append a A R ∙ or_from (is_in a A) (is_in a R) u.0 v.1) q.1,
    )

other : (c d : ℕ) (A R : List ℕ) → (c ≡ d → ⊥) → is_in c (A ++ (d ∷ R)) ≡ is_in c (A ++ R)
unfolding is_in
other c d A R ne =
    in_append c A (d ∷ R) ∙ (ap (λ b. is_in c A || (b || is_in c R)) (ne_eqb c d ne) ∙ sym (in_append c A R))

-- cells that go, from between others
pub cells_go : (r : ℕ) (A D R : List ℕ) → cell_twice (A ++ (D ++ R)) ≡ false → unmarked D (marks r 0 (A ++ (D ++ R))) ≡ marks r 0 (A ++ R)
unfolding unmarked
cells_go r A [] R h = refl
cells_go r A (d ∷ D) R h =
    let p = once A d (D ++ R) h in
    ap (unmarked D) (unmark r 0 d d (A ++ (d ∷ (D ++ R))) (A ++ (D ++ R)) (omega arith) (λ c ne. other c d A (D ++ R) ne) p.0)
    ∙ cells_go r A D R p.1

-- cells that come in, between others
swap : (a n r : Bool) → (n || (a || r)) ≡ (a || (n || r))
swap true true r = refl
swap true false r = refl
swap false n r = refl

cells_come : (r : ℕ) (A new R : List ℕ) → marked new (marks r 0 (A ++ R)) ≡ marks r 0 (A ++ (new ++ R))
cells_come r A new R =
    marked_marks r new (A ++ R)
    ∙ marks_same r 0 (new ++ (A ++ R)) (A ++ (new ++ R)) (λ c.
    in_append c new (A ++ R)
    ∙ (ap (λ b. is_in c new || b) (in_append c A R)
    ∙ (swap (is_in c A) (is_in c new) (is_in c R)
    ∙ sym (in_append c A (new ++ R) ∙ ap (λ b. is_in c A || b) (in_append c new R)))))

module _ (l : Limits) (t : Tree) {i : ℕ} {p : Place} (s : Stands i t.nodes p) where
  abbrev C : List ℕ
  C = cells (body_of t i)

  abbrev A : List ℕ
  A = all_cells s.pre

  abbrev R : List ℕ
  R = all_cells s.post

  -- all cells, by the parts of the list
  cells_parts : (b : Body) → all_cells (s.pre ++ (record { id = i; body = b } ∷ s.post)) ≡ A ++ (cells_in b ++ R)
  cells_parts b =
      sym (cells_are (s.pre ++ (record { id = i; body = b } ∷ s.post)))
      ∙ (joined_append node_cells s.pre (record { id = i; body = b } ∷ s.post)
      ∙ ap₂ (λ x y. x ++ (cells_in b ++ y)) (cells_are s.pre) (cells_are s.post))

  cells_now : all_cells t.nodes ≡ A ++ (C ++ R)
  cells_now = ap all_cells s.whole ∙ (cells_parts s.body ∙ ap (λ x. A ++ (x ++ R)) (sym (own_cells s)))

  cells_then : (b : Body) → all_cells (with_body i b t.nodes) ≡ A ++ (cells_in b ++ R)
  cells_then b = ap all_cells (ap (with_body i b) s.whole ∙ edited i s.pre s.body s.post s.first b) ∙ cells_parts b

  pub dir_cells : p.kind ≡ 0 → (es : List Entry) → all_cells (put_body i (dir es) t).nodes ≡ all_cells t.nodes
  dir_cells k es =
      let none : C ≡ [] = own_cells s ∙ (dir_has s.body (s.kind ∙ k)).1 in
      cells_then (dir es) ∙ (ap (λ x. A ++ (x ++ R)) (sym none) ∙ sym cells_now)

  pub own_dir : p.kind ≡ 0 → (es : List Entry) → own l (put_body i (dir es) t) ≡ own l t
  own_dir k es = ap (marks l.room 0) (dir_cells k es)

  pub own_grown : p.kind ≡ 1 → (n : ℕ) (new : List ℕ) → p.count ≤ n →
      own l (put_body i (file (take n C ++ new)) t) ≡ marked new (own l t)
  own_grown k n new le =
      let m = (file_at s k).many in
      ap (marks l.room 0) (cells_then (file (take n C ++ new))
      ∙ (ap (λ x. A ++ ((x ++ new) ++ R)) (take_all n C (omega arith)) ∙ simp append_assoc))
      ∙ (sym (cells_come l.room (A ++ C) new R)
      ∙ ap (λ x. marked new (marks l.room 0 x)) (append_assoc A C R ∙ sym cells_now))

  pub own_cut : cell_twice (all_cells t.nodes) ≡ false → (n : ℕ) →
      own l (put_body i (file (take n C ++ [])) t) ≡ unmarked (drop n C) (own l t)
  own_cut h n =
      let K : List ℕ = take n C in
      let D : List ℕ = drop n C in
      let e : all_cells t.nodes ≡ (A ++ K) ++ (D ++ R) =
      cells_now ∙ (ap (λ x. A ++ (x ++ R)) (sym (take-append-drop n C)) ∙ simp append_assoc) in
      ap (marks l.room 0) (cells_then (file (K ++ [])) ∙ (ap (λ x. A ++ (x ++ R)) (append-nil K) ∙ sym (append_assoc A K R)))
      ∙ (sym (cells_go l.room (A ++ K) D R (ap cell_twice (sym e) ∙ h)) ∙ ap (λ x. unmarked D (marks l.room 0 x)) (sym e))

  pub own_gone : cell_twice (all_cells t.nodes) ≡ false → own l (drop_node i t) ≡ unmarked C (own l t)
  own_gone h =
      let e : all_cells (drop_node i t).nodes ≡ A ++ R =
      ap all_cells (ap (without_node i) s.whole ∙ dropped i s.pre s.body s.post s.first)
      ∙ (sym (cells_are (s.pre ++ s.post))
      ∙ (joined_append node_cells s.pre s.post ∙ ap₂ (λ x y. x ++ y) (cells_are s.pre) (cells_are s.post))) in
      ap (marks l.room 0) e
      ∙ (sym (cells_go l.room A C R (ap cell_twice (sym cells_now) ∙ h)) ∙ ap (λ x. unmarked C (marks l.room 0 x)) (sym cells_now))

pub own_added : (l : Limits) (t : Tree) (k : ℕ) (b : Body) → cells_in b ≡ [] →
    own l (record { nodes = t.nodes ++ (record { id = t.next; body = b } ∷ []); next = k }) ≡ own l t
own_added l t k b none =
    let u : Node = record { id = t.next; body = b } in
    ap (marks l.room 0) (sym (cells_are (t.nodes ++ (u ∷ [])))
    ∙ (joined_append node_cells t.nodes (u ∷ [])
    ∙ (ap₂ (λ x y. x ++ (y ++ [])) (cells_are t.nodes) none ∙ append-nil (all_cells t.nodes))))
