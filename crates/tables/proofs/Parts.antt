-- One node's body changes, or the node goes: what that is of each padded table. The node's own words are taken apart where
-- something comes in or goes.
use Rattle.std.proofs.Common.{◌≡◌, ℕ, suc, ◌+◌, ◌-◌, ◌*◌, ◌≤◌, List, [], ◌∷◌, ◌++◌, length, set, replicate, sym, refl, ap, ◌∙◌, ap₂, append_assoc, arith, length-append}
use Rattle.std.specs.List.{flat_map}
use Rattle.blocks.specs.Words.{pad, opened, closed}
use Rattle.blocks.proofs.Joins.{joined_append, length_joined}
use Rattle.model.specs.Tree.{Body, Node, all_cells}
use Rattle.machine.specs.State.{entry_count}
use Rattle.machine.specs.Tables.{kind_of, count_of, entries_in, cells_in, node_row, node_words, sum_words}
use Rattle.machine.proofs.Tables.{length-sums}
use Rattle.tables.specs.Edits.{shifted}
use Rattle.tables.proofs.Splices.{opened_pad, closed_pad, set-pad}
use Rattle.tables.proofs.Sums.{sums-append, sums_shifted}

module _ (i : ℕ) (pre : List Node) (a : Body) (post : List Node) where
  abbrev node : Body → Node
  node b = record { id = i; body = b }

  abbrev whole : Body → List Node
  whole b = pre ++ (node b ∷ post)

  -- a table's words are those before the node, its own, and those after it
  parts : (f : Node → List ℕ) (b : Body) → flat_map f (whole b) ≡ flat_map f pre ++ (f (node b) ++ flat_map f post)
  parts f b = joined_append f pre (node b ∷ post)

  -- the node's own words are A, then B: others come in between, or go from between
  module _ (f : Node → List ℕ) (b : Body) (n used at : ℕ) (A B : List ℕ) (place : length (flat_map f pre) + length A ≡ at)
      (many : length (flat_map f (whole a)) ≡ used) where
    pub put_in : (row : List ℕ) → f (node a) ≡ A ++ B → f (node b) ≡ A ++ (row ++ B) → used + length row ≤ n →
        opened used at row (pad n (flat_map f (whole a))) ≡ pad n (flat_map f (whole b))
    put_in row was is fits =
        let F : List ℕ = flat_map f pre in
        let G : List ℕ = flat_map f post in
        let lf : length (F ++ A) ≡ at = length-append F A ∙ place in
        let e0 = parts f a in
        let e1 : F ++ ((A ++ B) ++ G) ≡ (F ++ A) ++ (B ++ G) = simp append_assoc in
        let e2 : flat_map f (whole a) ≡ (F ++ A) ++ (B ++ G) = cc in
        let lu : at + length (B ++ G) ≡ used = let l = ap length e2 ∙ length-append (F ++ A) (B ++ G) in omega arith in
        let e3 = parts f b in
        let e4 : F ++ ((A ++ (row ++ B)) ++ G) ≡ (F ++ A) ++ (row ++ (B ++ G)) = simp append_assoc in
        let e5 : flat_map f (whole b) ≡ (F ++ A) ++ (row ++ (B ++ G)) = cc in
        let e6 = opened_pad n used at (F ++ A) (B ++ G) row lf lu fits in
        cc

    pub taken_out : (mid : List ℕ) (k : ℕ) → length mid ≡ k → f (node a) ≡ A ++ (mid ++ B) → f (node b) ≡ A ++ B → used ≤ n →
        closed used at k (pad n (flat_map f (whole a))) ≡ pad n (flat_map f (whole b))
    taken_out mid k lm was is fits =
        let F : List ℕ = flat_map f pre in
        let G : List ℕ = flat_map f post in
        let lf : length (F ++ A) ≡ at = length-append F A ∙ place in
        let e0 = parts f a in
        let e1 : F ++ ((A ++ (mid ++ B)) ++ G) ≡ (F ++ A) ++ (mid ++ (B ++ G)) = simp append_assoc in
        let e2 : flat_map f (whole a) ≡ (F ++ A) ++ (mid ++ (B ++ G)) = cc in
        let lu : (at + k) + length (B ++ G) ≡ used =
        let l = ap length e2 ∙ (length-append (F ++ A) (mid ++ (B ++ G)) ∙ ap (λ x. length (F ++ A) + x) (length-append mid (B ++ G))) in
        omega arith in
        let e3 = parts f b in
        let e4 : F ++ ((A ++ B) ++ G) ≡ (F ++ A) ++ (B ++ G) = simp append_assoc in
        let e5 : flat_map f (whole b) ≡ (F ++ A) ++ (B ++ G) = cc in
        let e6 = closed_pad n used at k (F ++ A) mid (B ++ G) lf lm lu fits in
        cc

  -- the node's own words stay
  pub stays : (f : Node → List ℕ) (b : Body) (n : ℕ) → f (node a) ≡ f (node b) → pad n (flat_map f (whole a)) ≡ pad n (flat_map f (whole b))
  stays f b n e = ap (pad n) (parts f a ∙ (ap (λ x. flat_map f pre ++ (x ++ flat_map f post)) e ∙ sym (parts f b)))

  -- the node goes, with its words
  pub gone_words : (f : Node → List ℕ) (n used at k : ℕ) → length (flat_map f pre) ≡ at → length (flat_map f (whole a)) ≡ used →
      length (f (node a)) ≡ k → used ≤ n → closed used at k (pad n (flat_map f (whole a))) ≡ pad n (flat_map f (pre ++ post))
  gone_words f n used at k place many long fits =
      let F : List ℕ = flat_map f pre in
      let G : List ℕ = flat_map f post in
      let M : List ℕ = f (node a) in
      let e0 = parts f a in
      let e1 = joined_append f pre post in
      let lu : (at + k) + length G ≡ used =
      let l = ap length e0 ∙ (length-append F (M ++ G) ∙ ap (λ x. length F + x) (length-append M G)) in omega arith in
      let e2 = closed_pad n used at k F M G place long lu fits in
      cc

  -- its row with another count
  pub recounted : (b : Body) (n r : ℕ) → length pre ≡ r → kind_of a ≡ kind_of b →
      set (pad n (node_words (whole a))) (4 * r + 2) (count_of b) ≡ pad n (node_words (whole b))
  recounted b n r row kind =
      let N : List ℕ = node_words pre in
      let front : List ℕ = N ++ (i ∷ kind_of b ∷ []) in
      let back : List ℕ = 0 ∷ node_words post in
      let lf : length front ≡ 4 * r + 2 =
      let l = length_joined 4 node_row (λ x. refl) pre in length-append N (i ∷ kind_of b ∷ []) ∙ omega arith in
      let e0 : node_words (whole a) ≡ N ++ (i ∷ kind_of b ∷ count_of a ∷ back) = rw (sym kind) (parts node_row a) in
      let e1 : node_words (whole a) ≡ front ++ (count_of a ∷ back) = e0 ∙ sym (append_assoc N (i ∷ kind_of b ∷ []) (count_of a ∷ back)) in
      let e2 : node_words (whole b) ≡ front ++ (count_of b ∷ back) =
      parts node_row b ∙ sym (append_assoc N (i ∷ kind_of b ∷ []) (count_of b ∷ back)) in
      let e3 = set-pad n (4 * r + 2) front back (count_of a) (count_of b) lf in
      cc

  -- the sums: those up to the node, and those after it
  sums_parts : (b : Body) →
      let E : ℕ = 0 + entry_count pre in
      let C : ℕ = 0 + length (all_cells pre) in
      sum_words 0 0 (whole b)
      ≡ (sum_words 0 0 pre ++ (E ∷ C ∷ [])) ++ sum_words (E + length (entries_in b)) (C + length (cells_in b)) post
  sums_parts b =
      let E : ℕ = 0 + entry_count pre in
      let C : ℕ = 0 + length (all_cells pre) in
      sums-append 0 0 pre (node b ∷ post)
      ∙ sym (append_assoc (sum_words 0 0 pre) (E ∷ C ∷ []) (sum_words (E + length (entries_in b)) (C + length (cells_in b)) post))

  -- those after it, shifted by what a has and should have
  after_shifted : (f g : ℕ → ℕ) (u v n r k : ℕ) → length pre ≡ r → length post ≡ k →
      ((x : ℕ) → f (x + length (entries_in a)) ≡ x + u) → ((x : ℕ) → g (x + length (cells_in a)) ≡ x + v) →
      let E : ℕ = 0 + entry_count pre in
      let C : ℕ = 0 + length (all_cells pre) in
      shifted f g k (r + 1) (pad n (sum_words 0 0 (whole a)))
      ≡ pad n ((sum_words 0 0 pre ++ (E ∷ C ∷ [])) ++ sum_words (E + u) (C + v) post)
  after_shifted f g u v n r k row after fs gs =
      let E : ℕ = 0 + entry_count pre in
      let C : ℕ = 0 + length (all_cells pre) in
      let F : List ℕ = sum_words 0 0 pre ++ (E ∷ C ∷ []) in
      let A : List ℕ = sum_words (E + length (entries_in a)) (C + length (cells_in a)) post in
      let B : List ℕ = sum_words (E + u) (C + v) post in
      let Z : List ℕ = replicate (n - length (F ++ A)) 0 in
      let lf : length F ≡ 2 * (r + 1) =
      length-append (sum_words 0 0 pre) (E ∷ C ∷ []) ∙ (let l = length-sums 0 0 pre in omega arith) in
      let lb : length B ≡ length A =
      length-sums (E + u) (C + v) post ∙ sym (length-sums (E + length (entries_in a)) (C + length (cells_in a)) post) in
      let l : length (F ++ B) ≡ length (F ++ A) = length-append F B ∙ (ap (λ x. length F + x) lb ∙ sym (length-append F A)) in
      let e1 : shifted f g (length post) (r + 1) (F ++ (A ++ Z)) ≡ F ++ (B ++ Z) =
      sums_shifted f g (length (entries_in a)) u (length (cells_in a)) v fs gs post E C (r + 1) F Z lf in
      ap₂ (λ x y. shifted f g x (r + 1) (pad n y)) (sym after) (sums_parts a)
      ∙ (ap (shifted f g (length post) (r + 1)) (append_assoc F A Z)
      ∙ (e1 ∙ (sym (append_assoc F B Z) ∙ ap (λ x. (F ++ B) ++ replicate (n - x) 0) (sym l))))

  pub sums_edited : (f g : ℕ → ℕ) (b : Body) (n r k : ℕ) → length pre ≡ r → length post ≡ k →
      ((x : ℕ) → f (x + length (entries_in a)) ≡ x + length (entries_in b)) →
      ((x : ℕ) → g (x + length (cells_in a)) ≡ x + length (cells_in b)) →
      shifted f g k (r + 1) (pad n (sum_words 0 0 (whole a))) ≡ pad n (sum_words 0 0 (whole b))
  sums_edited f g b n r k row after fs gs =
      after_shifted f g (length (entries_in b)) (length (cells_in b)) n r k row after fs gs ∙ ap (pad n) (sym (sums_parts b))

  -- the sums without the node's row, and those after it shifted; or shifted first
  module _ (f g : ℕ → ℕ) (n used r k : ℕ) (row : length pre ≡ r) (after : length post ≡ k) (many : r + suc k ≡ used) (fits : 2 * used ≤ n)
      (fs : (x : ℕ) → f (x + length (entries_in a)) ≡ x + 0) (gs : (x : ℕ) → g (x + length (cells_in a)) ≡ x + 0) where
    abbrev E : ℕ
    E = 0 + entry_count pre

    abbrev C : ℕ
    C = 0 + length (all_cells pre)

    abbrev S : List ℕ
    S = sum_words 0 0 pre

    abbrev P : List ℕ
    P = sum_words (E + 0) (C + 0) post

    ls : length S ≡ 2 * r
    ls = let l = length-sums 0 0 pre in omega arith

    lp : length P ≡ 2 * k
    lp = length-sums (E + 0) (C + 0) post ∙ ap (λ x. 2 * x) after

    joined_sums : S ++ P ≡ sum_words 0 0 (pre ++ post)
    joined_sums =
        let z1 : E + 0 ≡ E = omega arith in
        let z2 : C + 0 ≡ C = omega arith in
        ap₂ (λ x y. S ++ sum_words x y post) z1 z2 ∙ sym (sums-append 0 0 pre post)

    pub sums_gone : shifted f g k r (closed (2 * used) (2 * r) 2 (pad n (sum_words 0 0 (whole a)))) ≡ pad n (sum_words 0 0 (pre ++ post))
    sums_gone =
        let A : List ℕ = sum_words (E + length (entries_in a)) (C + length (cells_in a)) post in
        let Z : List ℕ = replicate (n - length (S ++ A)) 0 in
        let la : length A ≡ 2 * k = length-sums (E + length (entries_in a)) (C + length (cells_in a)) post ∙ ap (λ x. 2 * x) after in
        let l : length (S ++ P) ≡ length (S ++ A) = length-append S P
        ∙ (ap (λ x. length S + x) (lp ∙ sym la) ∙ sym (length-append S A)) in
        let e0 : sum_words 0 0 (whole a) ≡ S ++ ((E ∷ C ∷ []) ++ A) = sums-append 0 0 pre (node a ∷ post) in
        let e1 : closed (2 * used) (2 * r) 2 (pad n (S ++ ((E ∷ C ∷ []) ++ A))) ≡ pad n (S ++ A) =
        closed_pad n (2 * used) (2 * r) 2 S (E ∷ C ∷ []) A ls refl (omega arith) fits in
        let e2 : shifted f g (length post) r (S ++ (A ++ Z)) ≡ S ++ (P ++ Z) =
        sums_shifted f g (length (entries_in a)) 0 (length (cells_in a)) 0 fs gs post E C r S Z ls in
        ap₂ (λ x y. shifted f g x r (closed (2 * used) (2 * r) 2 (pad n y))) (sym after) e0
        ∙ (ap (shifted f g (length post) r) (e1 ∙ append_assoc S A Z)
        ∙ (e2 ∙ (sym (append_assoc S P Z) ∙ (ap (λ x. (S ++ P) ++ replicate (n - x) 0) (sym l) ∙ ap (pad n) joined_sums))))

    pub sums-gone-last :
        closed (2 * used) (2 * r) 2 (shifted f g k (r + 1) (pad n (sum_words 0 0 (whole a)))) ≡ pad n (sum_words 0 0 (pre ++ post))
    sums-gone-last =
        ap (closed (2 * used) (2 * r) 2) (after_shifted f g 0 0 n r k row after fs gs ∙ ap (pad n) (append_assoc S (E ∷ C ∷ []) P))
        ∙ (closed_pad n (2 * used) (2 * r) 2 S (E ∷ C ∷ []) P ls refl (let l = lp in omega arith) fits ∙ ap (pad n) joined_sums)
