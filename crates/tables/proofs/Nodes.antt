-- Looking for a node, giving it another body and leaving it out, in a list of which the first part has no node with that id.
use Rattle.std.proofs.Common.{◌≡◌, ℕ, Bool, true, false, cond, eqb, List, [], ◌∷◌, ◌++◌, refl, ap, ◌∙◌, arith}
use Rattle.std.proofs.lemmas.Bool.{eq-eqb}
use Rattle.model.specs.Tree.{Body, Node, find_node, with_body, without_node}

pub find_past : (i : ℕ) (xs ys : List Node) → find_node i xs ≡ [] → find_node i (xs ++ ys) ≡ find_node i ys
unfolding find_node
find_past i [] ys e = refl
find_past i (x ∷ xs) ys e = go (eqb i x.id) (find_past i xs ys) e
  where
    go : (b : Bool) → (find_node i xs ≡ [] → find_node i (xs ++ ys) ≡ find_node i ys) →
        cond b (x.body ∷ []) (find_node i xs) ≡ [] → cond b (x.body ∷ []) (find_node i (xs ++ ys)) ≡ find_node i ys
    go true f h = let z : ◌≡◌ {A = ℕ} 0 1 = cc in absurd (omega arith)
    go false f h = f h

pub with_past : (i : ℕ) (b : Body) (xs ys : List Node) → find_node i xs ≡ [] → with_body i b (xs ++ ys) ≡ xs ++ with_body i b ys
unfolding find_node with_body
with_past i b [] ys e = refl
with_past i b (x ∷ xs) ys e = go (eqb i x.id) (with_past i b xs ys) e
  where
    go : (t : Bool) → (find_node i xs ≡ [] → with_body i b (xs ++ ys) ≡ xs ++ with_body i b ys) →
        cond t (x.body ∷ []) (find_node i xs) ≡ [] →
        cond t (record { id = i; body = b } ∷ (xs ++ ys)) (x ∷ with_body i b (xs ++ ys)) ≡ x ∷ (xs ++ with_body i b ys)
    go true f h = let z : ◌≡◌ {A = ℕ} 0 1 = cc in absurd (omega arith)
    go false f h = ap (λ r. x ∷ r) (f h)

pub without_past : (i : ℕ) (xs ys : List Node) → find_node i xs ≡ [] → without_node i (xs ++ ys) ≡ xs ++ without_node i ys
unfolding find_node without_node
without_past i [] ys e = refl
without_past i (x ∷ xs) ys e = go (eqb i x.id) (without_past i xs ys) e
  where
    go : (t : Bool) → (find_node i xs ≡ [] → without_node i (xs ++ ys) ≡ xs ++ without_node i ys) →
        cond t (x.body ∷ []) (find_node i xs) ≡ [] → cond t (xs ++ ys) (x ∷ without_node i (xs ++ ys)) ≡ x ∷ (xs ++ without_node i ys)
    go true f h = let z : ◌≡◌ {A = ℕ} 0 1 = cc in absurd (omega arith)
    go false f h = ap (λ r. x ∷ r) (f h)

module _ (i : ℕ) (pre : List Node) (a : Body) (post : List Node) (first : find_node i pre ≡ []) where
  pub found : find_node i (pre ++ (record { id = i; body = a } ∷ post)) ≡ a ∷ []
  unfolding find_node
  found = find_past i pre (record { id = i; body = a } ∷ post) first ∙ rw (eq-eqb i i refl)

  pub edited : (b : Body) → with_body i b (pre ++ (record { id = i; body = a } ∷ post)) ≡ pre ++ (record { id = i; body = b } ∷ post)
  unfolding with_body
  edited b =
      with_past i b pre (record { id = i; body = a } ∷ post) first
      ∙ ap (λ x. pre ++ cond x (record { id = i; body = b } ∷ post) (record { id = i; body = a } ∷ with_body i b post)) (eq-eqb i i refl)

  pub dropped : without_node i (pre ++ (record { id = i; body = a } ∷ post)) ≡ pre ++ post
  unfolding without_node
  dropped =
      without_past i pre (record { id = i; body = a } ∷ post) first
      ∙ ap (λ x. pre ++ cond x post (record { id = i; body = a } ∷ without_node i post)) (eq-eqb i i refl)

-- another node is as it was
