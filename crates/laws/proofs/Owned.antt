-- A place of a file and its cell, through every step: while the file is there and not made too short, the place has that cell,
-- and no other place has it.
use Rattle.std.proofs.Common.{◌≡◌, ℕ, suc, ◌<◌, ◌≤◌, true, false, cond, eqb, ◌⊎◌, List, [], ◌∷◌, ◌++◌, length, get_or, sym, refl, ap, ◌∙◌, subst, inl, inr, le_trans, le_of_eq, arith}
use Rattle.std.proofs.lemmas.Bool.{eq-eqb, ne_eqb, both_ways, cases_eq, cases_Bool, cases_lt, cond-true, cond-false}
use Rattle.std.proofs.lemmas.Bool.Decides.{nat_tests}
use Rattle.model.specs.Tree.{Entry, Body, Node, some_of, find_node, is_file, cells, without_node, with_body, dir, file}
use Rattle.model.specs.Calls.{Call}
use Rattle.model.specs.Refusals.{Limits}
use Rattle.model.specs.Fs.{Fs}
use Rattle.model.specs.Laws.{cuts_off}
use Rattle.model_facts.proofs.Nodes.{file_some, find_with, find_with_other, find_without_other}
use Rattle.laws.proofs.Sound.{with_id, found_id, id_without, id_found, id_with}
use Rattle.laws.proofs.Entries.{at, at_same}
use Rattle.laws.proofs.Totals.{total_without, find-append}
use Rattle.laws.proofs.Resizing.{sized_cells, length-sized, sized_old, sized_new}
use Rattle.laws.proofs.Names.{Well}
use Rattle.laws.proofs.Changes.{grown, fewer, moved_free, moved_over}
use Rattle.laws.proofs.Steps.{Step, still, changes, wrote, file_synced, sized, synced}

pub record Owned (i o c w : ℕ) (ts : List Node) : Type 0 where
  pub low : i < w
  pub has_it : is_file (find_node i ts) ≡ true → (o < length (cells (find_node i ts))) × (get_or (cells (find_node i ts)) o 0 ≡ c)
  pub alone : (j p : ℕ) → p < length (cells (find_node j ts)) → get_or (cells (find_node j ts)) p 0 ≡ c → (j ≡ i) × (p ≡ o)

-- each file is as it was, but for new ones, which are empty
FilesStay : ℕ → List Node → List Node → Type 0
FilesStay w ts us =
    (j : ℕ) → is_file (find_node j us) ≡ true → (find_node j us ≡ find_node j ts) ⊎ ((cells (find_node j us) ≡ []) × (w ≤ j))

cells_file : (bs : List Body) (p : ℕ) → p < length (cells bs) → is_file bs ≡ true
unfolding cells is_file
cells_file [] p h = absurd (omega arith)
cells_file (dir es ∷ bs) p h = absurd (omega arith)
cells_file (file cs ∷ bs) p h = refl

owned_stays : (i o c w v : ℕ) (ts us : List Node) → FilesStay w ts us → w ≤ v → Owned i o c w ts → Owned i o c v us
unfolding FilesStay
owned_stays i o c w v ts us f le a = record {
  low = omega (arith, a.low);
  has_it = λ h. elim (f i h) [
    | inl e ↦ rw e (a.has_it (rw e at h))
    | inr (z, k) ↦ absurd (omega (arith, a.low))
  ];
  alone = λ j p h e. elim (f j (cells_file _ p h)) [
    | inl q ↦ a.alone j p (rw q at h) (rw q at e)
    | inr (z, k) ↦ absurd (omega (arith, rw z at h))
  ];
}

-- a directory changed
not_file : (d : ℕ) (es : List Entry) (ts : List Node) → is_file (find_node d (with_body d (dir es) ts)) ≡ false
unfolding find_node with_body is_file
not_file d es [] = refl
not_file d es (t ∷ ts) = let ih = not_file d es ts in grind (arith, nat_tests)

stay_dir : (w d : ℕ) (es : List Entry) (ts : List Node) → FilesStay w ts (with_body d (dir es) ts)
unfolding FilesStay
stay_dir w d es ts j h =
    elim (cases_eq j d) [
      | inl z ↦ absurd (both_ways _ (not_file d es ts) (rw z at h))
      | inr ne ↦ inl (find_with_other j d (dir es) ts ne)
    ]

-- a node removed
stay_without : (w i : ℕ) (ts : List Node) → with_id i ts ≤ 1 → FilesStay w ts (without_node i ts)
unfolding FilesStay
stay_without w i ts once j h =
    elim (cases_eq j i) [
      | inl z ↦ (let p = id_found i (without_node i ts) (file_some _ (rw z at h)) in
          let q = found_id i ts (omega (arith, total_without (λ k _. at i k) i ts)) in
          absurd (omega (arith, id_without i i ts q, at_same i)))
      | inr ne ↦ inl (find_without_other j i ts ne)
    ]

-- a node added
find_last_node : (j w : ℕ) (b : Body) (ts : List Node) → some_of (find_node j ts) ≡ false →
    find_node j (ts ++ (record { id = w; body = b } ∷ [])) ≡ cond (eqb j w) (b ∷ []) []
unfolding find_node some_of
find_last_node j w b [] h = refl
find_last_node j w b (t ∷ ts) h = let ih = find_last_node j w b ts in grind arith

stay_added : (w : ℕ) (b : Body) (ts : List Node) → cells (b ∷ []) ≡ [] → FilesStay w ts (ts ++ (record { id = w; body = b } ∷ []))
unfolding FilesStay is_file
stay_added w b ts z j h =
    elim (cases_Bool (some_of (find_node j ts))) [
      | inl y ↦ inl (find-append j ts _ y)
      | inr n ↦ (let e = find_last_node j w b ts n in
          elim (cases_eq j w) [
            | inl q ↦ inr (ap cells (e ∙ cond-true _ _ _ (eq-eqb j w q)) ∙ z, omega arith)
            | inr ne ↦ absurd (both_ways (is_file []) refl (rw (e ∙ cond-false _ _ _ (ne_eqb j w ne)) at h))
          ])
    ]

stay_trans : (w : ℕ) (ts us vs : List Node) → FilesStay w ts us → FilesStay w us vs → FilesStay w ts vs
unfolding FilesStay
stay_trans w ts us vs f g j h =
    elim (g j h) [
      | inl e ↦ elim (f j (rw e at h)) [ inl q ↦ inl (e ∙ q) | inr (z, k) ↦ inr (rw e z, k) ]
      | inr q ↦ inr q
    ]

-- a file resized, by new cells, and not so that it loses the place
module _ (i o c w k j n : ℕ) (ts : List Node) (new : c < k) (f : is_file (find_node j ts) ≡ true) (stays : i ≡ j → o < n)
    (a : Owned i o c w ts) where
  abbrev was : List ℕ
  was = cells (find_node j ts)

  abbrev ks : List ℕ
  ks = sized_cells was n k

  abbrev us : List Node
  us = with_body j (file ks) ts

  at_j : cells (find_node j us) ≡ ks
  unfolding cells
  at_j = rw (find_with j (file ks) ts (file_some _ f))

  other : (m : ℕ) → (m ≡ j → ⊥) → find_node m us ≡ find_node m ts
  other m ne = find_with_other m j (file ks) ts ne

  -- a place of the resized file that has the cell
  alone_j : (p : ℕ) → p < length ks → get_or ks p 0 ≡ c → (j ≡ i) × (p ≡ o)
  alone_j p h e =
      let lt : p < n = le_trans h (le_of_eq (length-sized was n k)) in
      elim (cases_lt p (length was)) [
        | inl old ↦ a.alone j p old (sym (sized_old was n k p lt old) ∙ e)
        | inr le ↦ absurd (omega (arith, sized_new was n k p lt le))
      ]

  pub owned_sized : Owned i o c w us
  owned_sized = record {
    low = a.low;
    has_it = λ h. elim (cases_eq i j) [
      | inl z ↦ (let (p, q) = subst (λ m. (o < length (cells (find_node m ts))) × (get_or (cells (find_node m ts)) o 0 ≡ c)) z
          (a.has_it (rw z f)) in
          subst (λ us. (o < length us) × (get_or us o 0 ≡ c)) (sym (ap (λ m. cells (find_node m us)) z ∙ at_j))
          (le_trans (stays z) (le_of_eq (sym (length-sized was n k))), sized_old was n k o (stays z) p ∙ q))
      | inr ne ↦ rw (other i ne) (a.has_it (rw (other i ne) at h))
    ];
    alone = λ m p h e. elim (cases_eq m j) [
      | inl z ↦ (let y : cells (find_node m us) ≡ ks = ap (λ m. cells (find_node m us)) z ∙ at_j in
          let (q, r) = alone_j p (subst (λ us. p < length us) y h) (subst (λ us. get_or us p 0 ≡ c) y e) in
          (z ∙ q, r))
      | inr ne ↦ a.alone m p (rw (other m ne) at h) (rw (other m ne) at e)
    ];
  }

-- so every step keeps it
pub owned_next : (l : Limits) (i o c : ℕ) (s t : Fs) (call : Call) → Step l s call t → Well s.tree → cuts_off i o call ≡ false →
    c < length s.cells → Owned i o c s.tree.next s.tree.nodes → Owned i o c t.tree.next t.tree.nodes
unfolding cuts_off
owned_next l i o c s t _ still a off lt h = h
owned_next l i o c s t _ (changes (grown d n b p q x y z) w) a off lt h =
    let k : ℕ = s.tree.next in
    owned_stays i o c k (suc k) s.tree.nodes _
    (stay_trans k s.tree.nodes _ _ (stay_added k b s.tree.nodes q) (stay_dir k d _ _)) (omega arith) h
owned_next l i o c s t _ (changes (fewer d n j js x y z) w) a off lt h =
    let k : ℕ = s.tree.next in
    owned_stays i o c k k s.tree.nodes _
    (stay_trans k s.tree.nodes _ _ (stay_dir k d _ _) (stay_without k j _ (le_trans (le_of_eq (id_with j d _ _)) (a.once j))))
    (omega arith) h
owned_next l i o c s t _ (changes (moved_free d n e m j js u x y p q) w) a off lt h =
    let k : ℕ = s.tree.next in
    owned_stays i o c k k s.tree.nodes _ (stay_trans k s.tree.nodes _ _ (stay_dir k d _ _) (stay_dir k e _ _)) (omega arith) h
owned_next l i o c s t _ (changes (moved_over d n e m j js g gs u x y p q r z) w) a off lt h =
    let k : ℕ = s.tree.next in
    owned_stays i o c k k s.tree.nodes _
    (stay_trans k s.tree.nodes _ _ (stay_dir k e _ _)
    (stay_trans k _ _ _ (stay_without k g _ (le_trans (le_of_eq (id_with g e _ _)) (a.once g)))
    (stay_trans k _ _ _ (stay_dir k d _ _) (stay_dir k e _ _)))) (omega arith) h
owned_next l i o c s t _ (wrote j p b w) a off lt h = h
owned_next l i o c s t _ (file_synced j) a off lt h = h
owned_next l i o c s t _ (sized j n x y w) a off lt h =
    owned_sized i o c s.tree.next (length s.cells) j n s.tree.nodes lt x (λ z. grind (arith, nat_tests)) h
owned_next l i o c s t _ synced a off lt h = h
