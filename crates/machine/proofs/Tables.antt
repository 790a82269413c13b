-- A tree's tables: they hold words, they are as long as its counts say, and the tree that is read back from them is that
-- tree, whatever follows them.
use Rattle.std.proofs.Common.{◌≡◌, ℕ, zero, suc, ◌+◌, ◌*◌, ◌^◌, ◌<◌, ◌≤◌, true, ◌&&◌, eqb, ltb, leb, List, [], ◌∷◌, ◌++◌, length, take, drop, sym, refl, ap, ◌∙◌, append_assoc, arith, length-append, take_at, drop_at}
use Rattle.std.specs.List.{flat_map}
use Rattle.std.proofs.lemmas.Bool.{ltb-true, leb-true, and_parts, or_left, or_right, eq-eqb}
use Rattle.blocks.specs.Words.{chunks}
use Rattle.blocks.proofs.Joins.{length_joined}
use Rattle.blocks.proofs.Words.{Bytes, Small, small-append, small_zeros, small_chunks, name_back}
use Rattle.model.specs.Tree.{Name, Entry, Body, dir, file, Node, entries, cells, all_cells}
use Rattle.model.specs.Calls.{bytes, good_name}
use Rattle.model.specs.Fs.{is_in}
use Rattle.machine.specs.State.{entry_count}
use Rattle.machine.specs.Tables.{kind_of, entries_in, cells_in, count_of, node_row, entry_row, node_words, node_entries, entry_words}
use Rattle.machine.specs.Tables.{cell_words, sum_words, entry_from, entries_from, nodes_from}
use Rattle.machine.specs.Fits.{every, ok_entry, ok_node}

-- names
pub bytes_are : (n : Name) → bytes n ≡ true → Bytes n
unfolding bytes
bytes_are [] h k = omega arith
bytes_are (x ∷ xs) h zero = ltb-true x 256 (and_parts (ltb x 256) (bytes xs) h).0
bytes_are (x ∷ xs) h (suc k) = bytes_are xs (and_parts (ltb x 256) (bytes xs) h).1 k

pub record Short (n : Name) : Type 0 where
  pub some : 0 < length n
  pub short : length n ≤ 64
  pub all_bytes : Bytes n

pub short_name : (n : Name) → (good_name n && bytes n) ≡ true → Short n
short_name n h =
    let p = and_parts (good_name n) (bytes n) h in
    let q = and_parts (ltb 0 (length n)) (leb (length n) 64) p.0 in
    record { some = ltb-true 0 (length n) q.0; short = leb-true (length n) 64 q.1; all_bytes = bytes_are n p.1 }

entry_short : (k : ℕ) (e : Entry) → ok_entry k e ≡ true → Short e.name
entry_short k e h = short_name e.name (and_parts (ltb e.id k) (good_name e.name && bytes e.name) h).1

-- read back
entry_back : (e : Entry) (ws : List ℕ) → Short e.name → entry_from (entry_row e ++ ws) ≡ e
entry_back e ws s =
    ap (λ (x : Name). record { name = x; id = e.id }) (name_back 8 e.name s.all_bytes s.short)

entries_back : (k : ℕ) (es : List Entry) (ws : List ℕ) → every (ok_entry k) es ≡ true →
    entries_from (length es) (flat_map entry_row es ++ ws) ≡ es
unfolding every
entries_back k [] ws h = refl
entries_back k (e ∷ es) ws h =
    let p = and_parts (ok_entry k e) (every (ok_entry k) es) h in
    let J : List ℕ = flat_map entry_row es ++ ws in
    let a : (entry_row e ++ flat_map entry_row es) ++ ws ≡ entry_row e ++ J = append_assoc (entry_row e) (flat_map entry_row es) ws in
    let b : entry_from (entry_row e ++ J) ≡ e = entry_back e J (entry_short k e p.0) in
    let r : entries_from (length es) J ≡ es = entries_back k es ws p.1 in
    ap (entries_from (suc (length es))) a ∙ (ap (λ x. x ∷ entries_from (length es) J) b ∙ ap (λ x. e ∷ x) r)

pub entries_is : (b : Body) → entries (b ∷ []) ≡ entries_in b
unfolding entries
entries_is (dir es) = refl
entries_is (file cs) = refl

pub cells_is : (b : Body) → cells (b ∷ []) ≡ cells_in b
unfolding cells
cells_is (dir es) = refl
cells_is (file cs) = refl

pub nodes_back : (k : ℕ) (ts : List Node) (x y z : List ℕ) → every (ok_node k) ts ≡ true →
    nodes_from (length ts) (node_words ts ++ x) (entry_words ts ++ y) (cell_words ts ++ z) ≡ ts
unfolding every
nodes_back k [] x y z h = refl
nodes_back k (t ∷ ts) x y z h =
    let p = and_parts (ok_node k t) (every (ok_node k) ts) h in
    let q = and_parts (ltb t.id k) (every (ok_entry k) (entries (t.body ∷ []))) p.0 in
    one t.body (ap (every (ok_entry k)) (sym (entries_is t.body)) ∙ q.1) (nodes_back k ts x y z p.1)
  where
    N : List ℕ
    N = node_words ts ++ x

    E : List ℕ
    E = entry_words ts

    C : List ℕ
    C = cell_words ts

    one : (b : Body) → every (ok_entry k) (entries_in b) ≡ true → nodes_from (length ts) (node_words ts ++ x) (E ++ y) (C ++ z) ≡ ts →
        nodes_from (suc (length ts)) (t.id ∷ kind_of b ∷ count_of b ∷ 0 ∷ (node_words ts ++ x))
        ((flat_map entry_row (entries_in b) ++ E) ++ y) ((cells_in b ++ C) ++ z) ≡ record { id = t.id; body = b } ∷ ts
    one (dir es) s r =
        let J : List ℕ = flat_map entry_row es in
        let a : (J ++ E) ++ y ≡ J ++ (E ++ y) = append_assoc J E y in
        let d : drop (16 * length es) (J ++ (E ++ y)) ≡ E ++ y =
        drop_at J (E ++ y) (16 * length es) (length_joined 16 entry_row (λ q. refl) es) in
        let f : entries_from (length es) (J ++ (E ++ y)) ≡ es = entries_back k es (E ++ y) s in
        ap (λ w. nodes_from (suc (length ts)) (t.id ∷ 0 ∷ length es ∷ 0 ∷ (node_words ts ++ x)) w (C ++ z)) a
        ∙ (ap (λ w. record { id = t.id; body = dir w } ∷ nodes_from (length ts) (node_words ts ++ x)
        (drop (16 * length es) (J ++ (E ++ y))) (C ++ z)) f
        ∙ (ap (λ w. record { id = t.id; body = dir es } ∷ nodes_from (length ts) (node_words ts ++ x) w (C ++ z)) d
        ∙ ap (λ w. record { id = t.id; body = dir es } ∷ w) r))
    one (file cs) s r =
        let a : (cs ++ C) ++ z ≡ cs ++ (C ++ z) = append_assoc cs C z in
        let d : drop (length cs) (cs ++ (C ++ z)) ≡ C ++ z = drop_at cs (C ++ z) (length cs) refl in
        let f : take (length cs) (cs ++ (C ++ z)) ≡ cs = take_at cs (C ++ z) (length cs) refl in
        ap (λ w. nodes_from (suc (length ts)) (t.id ∷ 1 ∷ length cs ∷ 0 ∷ (node_words ts ++ x)) (E ++ y) w) a
        ∙ (ap (λ w. record { id = t.id; body = file w } ∷ nodes_from (length ts) (node_words ts ++ x) (E ++ y)
        (drop (length cs) (cs ++ (C ++ z)))) f
        ∙ (ap (λ w. record { id = t.id; body = file cs } ∷ nodes_from (length ts) (node_words ts ++ x) (E ++ y) w) d
        ∙ ap (λ w. record { id = t.id; body = file cs } ∷ w) r))

-- how long
pub length-nodes : (ts : List Node) → length (node_words ts) ≡ 4 * length ts
length-nodes ts = length_joined 4 node_row (λ t. refl) ts

pub entries-append : (ts us : List Node) → entry_count (ts ++ us) ≡ entry_count ts + entry_count us
unfolding entry_count
entries-append [] us = omega arith
entries-append (t ∷ ts) us = let q = entries-append ts us in omega arith

pub length-entries : (ts : List Node) → length (entry_words ts) ≡ 16 * entry_count ts
unfolding entry_count
length-entries [] = refl
length-entries (t ∷ ts) =
    let a = length-append (node_entries t) (entry_words ts) in
    let b = length_joined 16 entry_row (λ q. refl) (entries_in t.body) in
    let c = ap length (entries_is t.body) in
    let ih = length-entries ts in
    omega arith

pub cells_are : (ts : List Node) → cell_words ts ≡ all_cells ts
unfolding all_cells
cells_are [] = refl
cells_are (t ∷ ts) = rw (cells_is t.body, cells_are ts)

pub length-sums : (e c : ℕ) (ts : List Node) → length (sum_words e c ts) ≡ 2 * length ts
length-sums e c [] = refl
length-sums e c (t ∷ ts) =
    let ih = length-sums (e + length (entries_in t.body)) (c + length (cells_in t.body)) ts in omega arith

-- words
abbrev pub Few : ℕ → List Node → Type 0
Few n ts = (entry_count ts < n) × (length (all_cells ts) < n)

small_entry : (k : ℕ) (e : Entry) → k ≤ 2 ^ 32 → ok_entry k e ≡ true → Small (entry_row e)
small_entry k e b h =
    let s = entry_short k e h in
    let a = ltb-true e.id k (and_parts (ltb e.id k) (good_name e.name && bytes e.name) h).0 in
    let l = s.short in (
      omega arith,
      (
        omega arith,
        small-append (chunks 8 0 e.name) (0 ∷ 0 ∷ 0 ∷ 0 ∷ 0 ∷ 0 ∷ [])
            (small_chunks 8 0 e.name s.all_bytes) (small_zeros 6),
      ),
    )

small_entries : (k : ℕ) (es : List Entry) → k ≤ 2 ^ 32 → every (ok_entry k) es ≡ true → Small (flat_map entry_row es)
unfolding every
small_entries k [] b h = tt
small_entries k (e ∷ es) b h =
    let p = and_parts (ok_entry k e) (every (ok_entry k) es) h in
    small-append (entry_row e) (flat_map entry_row es) (small_entry k e b p.0) (small_entries k es b p.1)

pub small_entry_words : (k : ℕ) (ts : List Node) → k ≤ 2 ^ 32 → every (ok_node k) ts ≡ true → Small (entry_words ts)
unfolding every
small_entry_words k [] b h = tt
small_entry_words k (t ∷ ts) b h =
    let p = and_parts (ok_node k t) (every (ok_node k) ts) h in
    let q = and_parts (ltb t.id k) (every (ok_entry k) (entries (t.body ∷ []))) p.0 in
    small-append (node_entries t) (entry_words ts)
    (small_entries k (entries_in t.body) b (ap (every (ok_entry k)) (sym (entries_is t.body)) ∙ q.1))
    (small_entry_words k ts b p.1)

count_small : (b : Body) (n : ℕ) → length (entries (b ∷ [])) < n → length (cells (b ∷ [])) < n → (kind_of b < 2) × (count_of b < n)
unfolding entries cells
count_small (dir es) n p q = (omega arith, p)
count_small (file cs) n p q = (omega arith, q)

pub small_node_words : (k n : ℕ) (ts : List Node) → k ≤ 2 ^ 32 → n ≤ 2 ^ 32 → every (ok_node k) ts ≡ true → Few n ts →
    Small (node_words ts)
unfolding every entry_count all_cells
small_node_words k n [] b c h f = tt
small_node_words k n (t ∷ ts) b c h f =
    let p = and_parts (ok_node k t) (every (ok_node k) ts) h in
    let q = and_parts (ltb t.id k) (every (ok_entry k) (entries (t.body ∷ []))) p.0 in
    let i = ltb-true t.id k q.0 in
    let f0 = f.0 in
    let f1 = f.1 in
    let l = length-append (cells (t.body ∷ [])) (all_cells ts) in
    let r = count_small t.body n (omega arith) (omega arith) in
    let r0 = r.0 in
    let r1 = r.1 in
    (omega arith, (omega arith, (omega arith, (omega arith, small_node_words k n ts b c p.1 (omega arith, omega arith)))))

pub small_sum_words : (n e c : ℕ) (ts : List Node) → n ≤ 2 ^ 32 → e + entry_count ts < n → c + length (all_cells ts) < n →
    Small (sum_words e c ts)
unfolding entry_count all_cells
small_sum_words n e c [] b f g = tt
small_sum_words n e c (t ∷ ts) b f g =
    let l = length-append (cells (t.body ∷ [])) (all_cells ts) in
    let x = ap length (entries_is t.body) in
    let y = ap length (cells_is t.body) in (
      omega arith,
      (
        omega arith,
        small_sum_words n (e + length (entries_in t.body)) (c + length (cells_in t.body)) ts b (omega arith) (omega arith),
      ),
    )

pub small_below : (n : ℕ) (xs : List ℕ) → n ≤ 2 ^ 32 → ((x : ℕ) → is_in x xs ≡ true → x < n) → Small xs
unfolding is_in
small_below n [] b h = tt
small_below n (x ∷ xs) b h =
    let p = h x (or_left (eqb x x) (is_in x xs) (eq-eqb x x refl)) in
    (omega arith, small_below n xs b (λ y q. h y (or_right (eqb y x) (is_in y xs) q)))
