-- The table of sums: where what each node has begins is how much the nodes before it have; and after a change of one node, the
-- rows after it are raised or lowered.
use Rattle.std.proofs.Common.{◌≡◌, ℕ, ◌+◌, ◌*◌, List, [], ◌∷◌, ◌++◌, length, get_or, set, sym, refl, ap, ◌∙◌, ap₂, append_assoc, arith, length-append}
use lib.Seq.{set_at, get_or_at}
use Rattle.model.specs.Tree.{Node, cells, all_cells}
use Rattle.machine.proofs.Tables.{entries_is, cells_is}
use Rattle.machine.specs.State.{entry_count}
use Rattle.machine.specs.Tables.{entries_in, cells_in, sum_words}
use Rattle.tables.specs.Edits.{shifted, shifted_row}

-- how much nodes have, one after another
pub entries_more : (t : Node) (ts : List Node) → entry_count (t ∷ ts) ≡ length (entries_in t.body) + entry_count ts
unfolding entry_count
entries_more t ts = ap (λ x. length x + entry_count ts) (entries_is t.body)

pub cells_more : (t : Node) (ts : List Node) → length (all_cells (t ∷ ts)) ≡ length (cells_in t.body) + length (all_cells ts)
unfolding all_cells
cells_more t ts =
    length-append (cells (t.body ∷ [])) (all_cells ts) ∙ ap (λ x. length x + length (all_cells ts)) (cells_is t.body)

pub cells-append : (xs ys : List Node) → length (all_cells (xs ++ ys)) ≡ length (all_cells xs) + length (all_cells ys)
unfolding all_cells
cells-append [] ys = omega arith
cells-append (x ∷ xs) ys =
    let ih = cells-append xs ys in
    let a = cells_more x xs in
    let b = cells_more x (xs ++ ys) in
    omega arith

pub sums-append : (e c : ℕ) (xs ys : List Node) →
    sum_words e c (xs ++ ys) ≡ sum_words e c xs ++ sum_words (e + entry_count xs) (c + length (all_cells xs)) ys
unfolding entry_count all_cells
sums-append e c [] ys =
    let a : e ≡ e + 0 = omega arith in
    let b : c ≡ c + 0 = omega arith in
    ap₂ (λ x y. sum_words x y ys) a b
sums-append e c (x ∷ xs) ys =
    let E : ℕ = length (entries_in x.body) in
    let C : ℕ = length (cells_in x.body) in
    let ih = sums-append (e + E) (c + C) xs ys in
    let a : e + E + entry_count xs ≡ e + entry_count (x ∷ xs) = let q = entries_more x xs in omega arith in
    let b : c + C + length (all_cells xs) ≡ c + length (all_cells (x ∷ xs)) = let q = cells_more x xs in omega arith in
    ap (λ r. e ∷ c ∷ r) (ih ∙ ap₂ (λ u v. sum_words (e + E) (c + C) xs ++ sum_words u v ys) a b)

-- one row
row_shifted : (f g : ℕ → ℕ) (k e c : ℕ) (front back : List ℕ) → length front ≡ 2 * k →
    shifted_row f g k (front ++ (e ∷ c ∷ back)) ≡ front ++ (f e ∷ g c ∷ back)
row_shifted f g k e c front back l =
    let F : List ℕ = front ++ (f e ∷ []) in
    let lf : length F ≡ 2 * k + 1 = length-append front (f e ∷ []) ∙ omega arith in
    let a1 : get_or (front ++ (e ∷ c ∷ back)) (2 * k) 0 ≡ e = get_or_at front e (c ∷ back) 0 (2 * k) l in
    let a2 : set (front ++ (e ∷ c ∷ back)) (2 * k) (f e) ≡ front ++ (f e ∷ c ∷ back) = set_at front e (c ∷ back) (f e) (2 * k) l in
    let a3 : F ++ (c ∷ back) ≡ front ++ (f e ∷ c ∷ back) = append_assoc front (f e ∷ []) (c ∷ back) in
    let a4 : get_or (F ++ (c ∷ back)) (2 * k + 1) 0 ≡ c = get_or_at F c back 0 (2 * k + 1) lf in
    let a5 : set (F ++ (c ∷ back)) (2 * k + 1) (g c) ≡ F ++ (g c ∷ back) = set_at F c back (g c) (2 * k + 1) lf in
    let a6 : F ++ (g c ∷ back) ≡ front ++ (f e ∷ g c ∷ back) = append_assoc front (f e ∷ []) (g c ∷ back) in
    cc

-- the sums of nodes, of which the first are a and c, or b and d after the shift
module _ (f g : ℕ → ℕ) (a b c d : ℕ) (fs : (x : ℕ) → f (x + a) ≡ x + b) (gs : (x : ℕ) → g (x + c) ≡ x + d) where
  pub sums_shifted : (ts : List Node) (e h k : ℕ) (front back : List ℕ) → length front ≡ 2 * k →
      shifted f g (length ts) k (front ++ (sum_words (e + a) (h + c) ts ++ back)) ≡ front ++ (sum_words (e + b) (h + d) ts ++ back)
  sums_shifted [] e h k front back l = refl
  sums_shifted (t ∷ ts) e h k front back l =
      let E : ℕ = length (entries_in t.body) in
      let C : ℕ = length (cells_in t.body) in
      let W : List ℕ = sum_words (e + a + E) (h + c + C) ts ++ back in
      let V : List ℕ = sum_words (e + E + b) (h + C + d) ts ++ back in
      let G : List ℕ = (e + b) ∷ (h + d) ∷ [] in
      let r0 : shifted_row f g k (front ++ ((e + a) ∷ (h + c) ∷ W)) ≡ front ++ (f (e + a) ∷ g (h + c) ∷ W) =
      row_shifted f g k (e + a) (h + c) front W l in
      let r1 : front ++ (f (e + a) ∷ g (h + c) ∷ W) ≡ front ++ ((e + b) ∷ (h + d) ∷ W) =
      ap₂ (λ x y. front ++ (x ∷ y ∷ W)) (fs e) (gs h) in
      let r2 : front ++ ((e + b) ∷ (h + d) ∷ W) ≡ (front ++ G) ++ W = sym (append_assoc front G W) in
      let o1 : e + a + E ≡ e + E + a = omega arith in
      let o2 : h + c + C ≡ h + C + c = omega arith in
      let w : W ≡ sum_words (e + E + a) (h + C + c) ts ++ back = ap₂ (λ x y. sum_words x y ts ++ back) o1 o2 in
      let lg : length (front ++ G) ≡ 2 * (k + 1) = length-append front G ∙ omega arith in
      let ih : shifted f g (length ts) (k + 1) ((front ++ G) ++ (sum_words (e + E + a) (h + C + c) ts ++ back)) ≡ (front ++ G) ++ V =
      sums_shifted ts (e + E) (h + C) (k + 1) (front ++ G) back lg in
      let q1 : e + E + b ≡ e + b + E = omega arith in
      let q2 : h + C + d ≡ h + d + C = omega arith in
      let v : V ≡ sum_words (e + b + E) (h + d + C) ts ++ back = ap₂ (λ x y. sum_words x y ts ++ back) q1 q2 in
      ap (shifted f g (length ts) (k + 1)) (r0 ∙ (r1 ∙ (r2 ∙ ap (λ x. (front ++ G) ++ x) w)))
      ∙ (ih ∙ (append_assoc front G V ∙ ap (λ x. front ++ ((e + b) ∷ (h + d) ∷ x)) v))
