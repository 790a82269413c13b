-- A node is found in the words of nodes where it stands, whatever words follow; and ids that ascend do so by rows.
use Rattle.std.proofs.Common.{◌≡◌, ℕ, zero, suc, ◌+◌, ◌*◌, ◌<◌, ◌≤◌, Bool, true, false, cond, eqb, leb, List, [], ◌∷◌, ◌++◌, length, get_or, take, drop, sym, refl, ap, ◌∙◌, inl, inr, append_assoc, suc-le-suc, arith, length-append, get_or-drop, get_or-take}
use lib.Seq.{get_or_at}
use Rattle.std.proofs.lemmas.List.{drop_more, take-append-drop, length-take-le, get_or_append_left}
use Rattle.std.proofs.lemmas.Bool.{eqb-true, ne_eqb, eq-eqb, and_parts, leb-true, cases_lt}
use Rattle.blocks.proofs.Joins.{drop-row}
use Rattle.model.specs.Tree.{Body, dir, Node, find_node, with_body, all_cells}
use Rattle.model_facts.proofs.Nodes.{length_with}
use Rattle.machine.specs.State.{entry_count}
use Rattle.machine.specs.Tables.{entries_in, cells_in, node_row, node_words, sum_words}
use Rattle.machine.specs.Fits.{rising}
use Rattle.machine.proofs.Tables.{length-sums}
use Rattle.tables.specs.Lookup.{row_id, row_of, Ascends, Place, place_at, place_of}
use Rattle.tables.specs.Stands.{Stands, LookedUp}
use Rattle.tables.proofs.Sums.{sums-append}
use Rattle.tables.proofs.Rows.{Hit, first_case, first_is, first_none}

abbrev no_node : Node
no_node = record { id = 0; body = dir [] }

-- the words of a row
node_word : (ts : List Node) (x : List ℕ) (k j : ℕ) → k < length ts →
    get_or (node_words ts ++ x) (4 * k + j) 0 ≡ get_or (node_row (get_or ts k no_node) ++ (node_words (drop (k + 1) ts) ++ x)) j 0
node_word ts x k j lt =
    let W : List ℕ = node_words ts ++ x in
    let z : 4 * k ≡ 0 + 4 * k = omega arith in
    sym (get_or-drop (4 * k) W j 0)
    ∙ ap (λ y. get_or y j 0) (ap (λ n. drop n W) z ∙ drop-row 4 node_row (λ t. refl) [] x ts 0 k no_node refl lt)

id_word : (ts : List Node) (x : List ℕ) (k : ℕ) → k < length ts → row_id (node_words ts ++ x) k ≡ (get_or ts k no_node).id
id_word ts x k lt =
    let z : 4 * k ≡ 4 * k + 0 = omega arith in
    ap (λ n. get_or (node_words ts ++ x) n 0) z ∙ node_word ts x k 0 lt

-- no node has the id
none_found : (i : ℕ) (ts : List Node) → ((j : ℕ) → j < length ts → eqb i (get_or ts j no_node).id ≡ false) → find_node i ts ≡ []
unfolding find_node
none_found i [] f = refl
none_found i (t ∷ ts) f = rw (f 0 (omega arith)) (none_found i ts (λ j lt. f (suc j) (suc-le-suc lt)))

no_id : (i : ℕ) (ts : List Node) (j : ℕ) → find_node i ts ≡ [] → j < length ts → eqb i (get_or ts j no_node).id ≡ false
unfolding find_node
no_id i [] j e lt = absurd (omega arith)
no_id i (t ∷ ts) j e lt = go (eqb i t.id) refl e j lt (λ k. no_id i ts k)
  where
    go : (b : Bool) → eqb i t.id ≡ b → cond b (t.body ∷ []) (find_node i ts) ≡ [] → (j : ℕ) → j < suc (length ts) →
        ((k : ℕ) → find_node i ts ≡ [] → k < length ts → eqb i (get_or ts k no_node).id ≡ false) →
        eqb i (get_or (t ∷ ts) j no_node).id ≡ false
    go true q e j lt f = let z : ◌≡◌ {A = ℕ} 0 1 = cc in absurd (omega arith)
    go false q e zero lt f = q
    go false q e (suc j) lt f = f j e (omega arith)

-- the sums of a row
module _ (ts pre : List Node) (t : Node) (post : List Node) (y : List ℕ) (r : ℕ)
    (whole : ts ≡ pre ++ (t ∷ post)) (row : length pre ≡ r) where
  sums_at : sum_words 0 0 ts ++ y
      ≡ sum_words 0 0 pre ++ ((0 + entry_count pre) ∷ (0 + length (all_cells pre)) ∷
      (sum_words (0 + entry_count pre + length (entries_in t.body))
      (0 + length (all_cells pre) + length (cells_in t.body)) post ++ y))
  sums_at =
      ap (λ x. sum_words 0 0 x ++ y) whole
      ∙ (ap (λ x. x ++ y) (sums-append 0 0 pre (t ∷ post))
      ∙ append_assoc (sum_words 0 0 pre) (sum_words (0 + entry_count pre) (0 + length (all_cells pre)) (t ∷ post)) y)

  pub entries_at : get_or (sum_words 0 0 ts ++ y) (2 * r) 0 ≡ entry_count pre
  entries_at =
      let l : length (sum_words 0 0 pre) ≡ 2 * r = length-sums 0 0 pre ∙ ap (λ x. 2 * x) row in
      ap (λ x. get_or x (2 * r) 0) sums_at ∙ (get_or_at (sum_words 0 0 pre) (0 + entry_count pre) _ 0 (2 * r) l ∙ omega arith)

  pub cells_at : get_or (sum_words 0 0 ts ++ y) (2 * r + 1) 0 ≡ length (all_cells pre)
  cells_at =
      let E : ℕ = 0 + entry_count pre in
      let C : ℕ = 0 + length (all_cells pre) in
      let S : List ℕ = sum_words 0 0 pre ++ (E ∷ []) in
      let R : List ℕ = sum_words (E + length (entries_in t.body)) (C + length (cells_in t.body)) post ++ y in
      let l : length S ≡ 2 * r + 1 =
      length-append (sum_words 0 0 pre) (E ∷ []) ∙ (let a = length-sums 0 0 pre in omega arith) in
      let e : sum_words 0 0 pre ++ (E ∷ C ∷ R) ≡ S ++ (C ∷ R) = sym (append_assoc (sum_words 0 0 pre) (E ∷ []) (C ∷ R)) in
      ap (λ x. get_or x (2 * r + 1) 0) (sums_at ∙ e) ∙ (get_or_at S C R 0 (2 * r + 1) l ∙ omega arith)

-- where a search for an id ends
module _ (ts : List Node) (x y : List ℕ) (i : ℕ) where
  abbrev ns : List ℕ
  ns = node_words ts ++ x

  abbrev test : ℕ → Bool
  test k = eqb i (row_id ns k)

  -- a test of a row, of the node there
  tested : (k : ℕ) (b : Bool) → k < length ts → test (0 + k) ≡ b → eqb i (get_or ts k no_node).id ≡ b
  tested k b lt e =
      let z : 0 + k ≡ k = omega arith in
      ap (eqb i) (sym (id_word ts x k lt)) ∙ (ap test (sym z) ∙ e)

  stands : (r : ℕ) → Hit test (length ts) 0 r → Stands i ts (place_at r ns (sum_words 0 0 ts ++ y))
  stands r h = record {
    pre = take r ts;
    body = t.body;
    post = drop (r + 1) ts;
    whole = split ∙ ap (λ k. take r ts ++ (record { id = k; body = t.body } ∷ drop (r + 1) ts)) (sym is);
    first = none_found i (take r ts) (λ j lt.
        let g : get_or (take r ts) j no_node ≡ get_or ts j no_node = get_or-take r ts j no_node (omega (arith, row)) in
        ap (λ (n : Node). eqb i n.id) g ∙ tested j false (omega (arith, row, h.inside)) (h.before j (omega (arith, row))));
    row = row;
    kind = sym (node_word ts x r 1 h.inside);
    count = sym (node_word ts x r 2 h.inside);
    entries = sym (entries_at ts (take r ts) t (drop (r + 1) ts) y r split row);
    cells = sym (cells_at ts (take r ts) t (drop (r + 1) ts) y r split row);
  }
    where
      t : Node
      t = get_or ts r no_node

      split : ts ≡ take r ts ++ (t ∷ drop (r + 1) ts)
      split = sym (take-append-drop r ts) ∙ ap (λ z. take r ts ++ z) (drop_more ts r no_node h.inside)

      is : i ≡ t.id
      is = eqb-true i t.id (tested r true h.inside h.here)

      row : length (take r ts) ≡ r
      row = length-take-le r ts (let a = h.inside in omega arith)

  -- the row of a node that stands somewhere is where a search for it ends
  hit_at : (js : List Node) (p : Place) → Stands i js p → length ts ≡ length js →
      ((k : ℕ) → (get_or ts k no_node).id ≡ (get_or js k no_node).id) → Hit test (length ts) 0 p.row
  hit_at js p s long ids = record {
    inside = inside;
    here = same p.row true inside (eq-eqb i (get_or js p.row no_node).id (sym (ap (λ (n : Node). n.id) there)));
    before = λ k lt. same k false (omega (arith, inside))
        (ap (λ (n : Node). eqb i n.id) (earlier k lt) ∙ no_id i s.pre k s.first (omega (arith, s.row)));
  }
    where
      inside : p.row < length ts
      inside = omega (arith, long, ap length s.whole ∙ length-append s.pre (record { id = i; body = s.body } ∷ s.post), s.row)

      there : get_or js p.row no_node ≡ record { id = i; body = s.body }
      there =
          ap (λ x. get_or x p.row no_node) s.whole
          ∙ get_or_at s.pre (record { id = i; body = s.body }) s.post no_node p.row s.row

      earlier : (k : ℕ) → k < p.row → get_or js k no_node ≡ get_or s.pre k no_node
      earlier k lt =
          ap (λ x. get_or x k no_node) s.whole
          ∙ get_or_append_left s.pre (record { id = i; body = s.body } ∷ s.post) no_node k (omega (arith, s.row))

      same : (k : ℕ) (b : Bool) → k < length ts → eqb i (get_or js k no_node).id ≡ b → test (0 + k) ≡ b
      same k b lt e =
          ap test (let z : 0 + k ≡ k = omega arith in z) ∙ (ap (eqb i) (id_word ts x k lt ∙ ids k) ∙ e)

  stands_still : (js : List Node) (p : Place) → Stands i js p → length ts ≡ length js →
      ((k : ℕ) → (get_or ts k no_node).id ≡ (get_or js k no_node).id) → Stands i ts (place_at p.row ns (sum_words 0 0 ts ++ y))
  stands_still js p s long ids = stands p.row (hit_at js p s long ids)

  pub looked_up : LookedUp i ts (place_of i (length ts) ns (sum_words 0 0 ts ++ y))
  looked_up = elim (first_case test (length ts) 0) [
    | inl q ↦ inl (q.0, none_found i ts (λ j lt. tested j false lt (q.1 j lt)))
    | inr q ↦ inr (q.inside, stands (row_of i (length ts) ns) q)
  ]

-- another body changes no id
ids_with : (d : ℕ) (b : Body) (ts : List Node) (k : ℕ) → (get_or (with_body d b ts) k no_node).id ≡ (get_or ts k no_node).id
unfolding with_body
ids_with d b [] k = refl
ids_with d b (t ∷ ts) k = go (eqb d t.id) refl k (ids_with d b ts)
  where
    go : (x : Bool) → eqb d t.id ≡ x → (k : ℕ) → ((j : ℕ) → (get_or (with_body d b ts) j no_node).id ≡ (get_or ts j no_node).id) →
        (get_or (cond x (record { id = d; body = b } ∷ ts) (t ∷ with_body d b ts)) k no_node).id ≡ (get_or (t ∷ ts) k no_node).id
    go true e zero f = eqb-true d t.id e
    go true e (suc k) f = refl
    go false e zero f = refl
    go false e (suc k) f = f k

pub stands_with : (d : ℕ) (b : Body) (ts : List Node) (x y : List ℕ) (i : ℕ) (p : Place) → Stands i ts p →
    Stands i (with_body d b ts) (place_at p.row (node_words (with_body d b ts) ++ x) (sum_words 0 0 (with_body d b ts) ++ y))
stands_with d b ts x y i p s = stands_still (with_body d b ts) x y i ts p s (length_with d b ts) (ids_with d b ts)

-- ids that ascend
rising_low : (low : ℕ) (ts : List Node) (k : ℕ) → rising low ts ≡ true → k < length ts → low ≤ (get_or ts k no_node).id
unfolding rising
rising_low low [] k h lt = absurd (omega arith)
rising_low low (t ∷ ts) zero h lt = leb-true low t.id (and_parts (leb low t.id) (rising (suc t.id) ts) h).0
rising_low low (t ∷ ts) (suc k) h lt =
    let p = and_parts (leb low t.id) (rising (suc t.id) ts) h in
    let a = leb-true low t.id p.0 in
    let b = rising_low (suc t.id) ts k p.1 (omega arith) in
    omega arith

ids_ascend : (low : ℕ) (ts : List Node) (j k : ℕ) → rising low ts ≡ true → j < k → k < length ts →
    (get_or ts j no_node).id < (get_or ts k no_node).id
unfolding rising
ids_ascend low [] j k h lt le = absurd (omega arith)
ids_ascend low (t ∷ ts) j zero h lt le = absurd (omega arith)
ids_ascend low (t ∷ ts) zero (suc k) h lt le =
    let p = and_parts (leb low t.id) (rising (suc t.id) ts) h in
    let b = rising_low (suc t.id) ts k p.1 (omega arith) in
    omega arith
ids_ascend low (t ∷ ts) (suc j) (suc k) h lt le =
    let p = and_parts (leb low t.id) (rising (suc t.id) ts) h in
    ids_ascend (suc t.id) ts j k p.1 (omega arith) (omega arith)

pub rows_ascend : (ts : List Node) (x : List ℕ) → rising 0 ts ≡ true → Ascends (length ts) (node_words ts ++ x)
rows_ascend ts x h j k lt le =
    let a = id_word ts x j (omega arith) in
    let b = id_word ts x k le in
    let c = ids_ascend 0 ts j k h lt le in
    omega arith

-- where ids ascend, there is one row with an id, and none where it is between two
pub row_hit : (n : ℕ) (ns : List ℕ) (i k : ℕ) → Ascends n ns → k < n → row_id ns k ≡ i → row_of i n ns ≡ k
row_hit n ns i k up lt e = first_is (λ j. eqb i (row_id ns j)) n 0 k (record {
  inside = lt;
  here = eq-eqb i (row_id ns (0 + k)) (sym e ∙ ap (row_id ns) (let z : k ≡ 0 + k = omega arith in z));
  before = λ j l. ne_eqb i (row_id ns (0 + j)) (λ q.
      let z : 0 + j ≡ j = omega arith in
      let u = up j k l lt in
      let w = ap (row_id ns) z in
      omega arith);
})

pub row_missed : (n : ℕ) (ns : List ℕ) (i at : ℕ) → ((k : ℕ) → k < at → row_id ns k < i) → ((k : ℕ) → at ≤ k → k < n → i < row_id ns k) →
    row_of i n ns ≡ n
row_missed n ns i at low high = first_none (λ j. eqb i (row_id ns j)) n 0 (λ j l. ne_eqb i (row_id ns (0 + j)) (λ q.
    let w = ap (row_id ns) (let z : 0 + j ≡ j = omega arith in z) in
    elim (cases_lt j at) [ inl a ↦ let u = low j a in omega arith | inr a ↦ let u = high j a l in omega arith ]))
