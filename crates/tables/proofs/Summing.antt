-- Sums made from the table of nodes, row by row.
use Rattle.std.proofs.Common.{◌≡◌, ℕ, suc, ◌+◌, ◌*◌, ◌≤◌, cond, eqb, List, [], ◌∷◌, ◌++◌, length, get_or, drop, set, sym, refl, ap, ◌∙◌, ap₂, append_assoc, arith, length-append, get_or-drop, drop-drop}
use lib.Seq.{set_at}
use Rattle.model.specs.Tree.{Body, dir, file, Node}
use Rattle.machine.specs.Tables.{kind_of, count_of, entries_in, cells_in, node_words, sum_words}
use Rattle.tables.specs.Lookup.{row_kind, row_count, summed}

-- how much a node has, by its words
entries_by : (b : Body) → cond (eqb (kind_of b) 0) (count_of b) 0 ≡ length (entries_in b)
entries_by (dir es) = refl
entries_by (file cs) = refl

cells_by : (b : Body) → cond (eqb (kind_of b) 0) 0 (count_of b) ≡ length (cells_in b)
cells_by (dir es) = refl
cells_by (file cs) = refl

set_pair : (k e c a b : ℕ) (front R : List ℕ) → length front ≡ 2 * k →
    set (set (front ++ (a ∷ b ∷ R)) (2 * k) e) (2 * k + 1) c ≡ (front ++ (e ∷ c ∷ [])) ++ R
set_pair k e c a b front R l =
    let F : List ℕ = front ++ (e ∷ []) in
    let lf : length F ≡ 2 * k + 1 = length-append front (e ∷ []) ∙ omega arith in
    let a1 : set (front ++ (a ∷ b ∷ R)) (2 * k) e ≡ front ++ (e ∷ b ∷ R) = set_at front a (b ∷ R) e (2 * k) l in
    let a2 : F ++ (b ∷ R) ≡ front ++ (e ∷ b ∷ R) = append_assoc front (e ∷ []) (b ∷ R) in
    let a3 : set (F ++ (b ∷ R)) (2 * k + 1) c ≡ F ++ (c ∷ R) = set_at F b R c (2 * k + 1) lf in
    let a4 : F ++ (c ∷ R) ≡ front ++ (e ∷ c ∷ R) = append_assoc front (e ∷ []) (c ∷ R) in
    let a5 : (front ++ (e ∷ c ∷ [])) ++ R ≡ front ++ (e ∷ c ∷ R) = append_assoc front (e ∷ c ∷ []) R in
    cc

-- from a row on, where the words of the nodes from there on follow
sums_from : (ts : List Node) (k e c : ℕ) (ns x front R : List ℕ) → drop (4 * k) ns ≡ node_words ts ++ x → length front ≡ 2 * k →
    2 * length ts ≤ length R → summed (length ts) k e c ns (front ++ R) ≡ front ++ (sum_words e c ts ++ drop (2 * length ts) R)
sums_from [] k e c ns x front R at l le = refl
sums_from (t ∷ ts) k e c ns x front [] at l le = absurd (omega arith)
sums_from (t ∷ ts) k e c ns x front (a ∷ []) at l le = absurd (omega arith)
sums_from (t ∷ ts) k e c ns x front (a ∷ b ∷ R) at l le =
    let E : ℕ = length (entries_in t.body) in
    let C : ℕ = length (cells_in t.body) in
    let G : List ℕ = e ∷ c ∷ [] in
    let kind : row_kind ns k ≡ kind_of t.body = sym (get_or-drop (4 * k) ns 1 0) ∙ ap (λ w. get_or w 1 0) at in
    let count : row_count ns k ≡ count_of t.body = sym (get_or-drop (4 * k) ns 2 0) ∙ ap (λ w. get_or w 2 0) at in
    let de : cond (eqb (row_kind ns k) 0) (row_count ns k) 0 ≡ E =
    ap₂ (λ p q. cond (eqb p 0) q 0) kind count ∙ entries_by t.body in
    let dc : cond (eqb (row_kind ns k) 0) 0 (row_count ns k) ≡ C =
    ap₂ (λ p q. cond (eqb p 0) 0 q) kind count ∙ cells_by t.body in
    let z : 4 * k + 4 ≡ 4 * (k + 1) = omega arith in
    let next : drop (4 * (k + 1)) ns ≡ node_words ts ++ x =
    ap (λ n. drop n ns) (sym z) ∙ (sym (drop-drop 4 (4 * k) ns) ∙ ap (drop 4) at) in
    let lg : length (front ++ G) ≡ 2 * (k + 1) = length-append front G ∙ omega arith in
    let ih = sums_from ts (k + 1) (e + E) (c + C) ns x (front ++ G) R next lg (omega arith) in
    let w : 2 * suc (length ts) ≡ 2 + 2 * length ts = omega arith in
    let d : drop (2 * suc (length ts)) (a ∷ b ∷ R) ≡ drop (2 * length ts) R =
    ap (λ n. drop n (a ∷ b ∷ R)) w ∙ sym (drop-drop (2 * length ts) 2 (a ∷ b ∷ R)) in
    ap (λ q. summed (length ts) (k + 1) (e + cond (eqb (row_kind ns k) 0) (row_count ns k) 0)
    (c + cond (eqb (row_kind ns k) 0) 0 (row_count ns k)) ns q) (set_pair k e c a b front R l)
    ∙ (ap₂ (λ p q. summed (length ts) (k + 1) (e + p) (c + q) ns ((front ++ G) ++ R)) de dc
    ∙ (ih
    ∙ (append_assoc front G (sum_words (e + E) (c + C) ts ++ drop (2 * length ts) R)
    ∙ ap (λ q. front ++ (e ∷ c ∷ (sum_words (e + E) (c + C) ts ++ q))) (sym d))))

pub sums_made : (ts : List Node) (x ws : List ℕ) → 2 * length ts ≤ length ws →
    summed (length ts) 0 0 0 (node_words ts ++ x) ws ≡ sum_words 0 0 ts ++ drop (2 * length ts) ws
sums_made ts x ws le = sums_from ts 0 0 0 (node_words ts ++ x) x [] ws refl refl le
