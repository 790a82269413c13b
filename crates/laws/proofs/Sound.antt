-- Sound trees: each node but directory 0 is named once, names and ids are apart; and how each change of a tree keeps that.
use Rattle.std.proofs.Common.{◌≡◌, ℕ, suc, ◌+◌, ◌-◌, ◌<◌, ◌≤◌, true, ◌⊎◌, List, [], ◌∷◌, ◌++◌, sym, refl, ap, ◌∙◌, inl, inr, arith}
use Rattle.std.proofs.lemmas.Bool.Decides.{nat_tests}
use Rattle.model.specs.Tree.{Name, Entry, Body, Node, some_of, find_node, is_dir, entries, find_name, without_name, without_node}
use Rattle.model.specs.Tree.{with_body}
use Rattle.model.specs.Tree.{dir, file}
use Rattle.model_facts.proofs.Names.{same_is}
use Rattle.laws.proofs.Totals.{total, of_found, if_found, total-append, total_with, total_without}
use Rattle.laws.proofs.Entries.{at, at_same, at_other, called, sum, sum-append, sum_without, of_name, of_id, unnamed}

-- how many nodes have an id
abbrev pub with_id : ℕ → List Node → ℕ
with_id k = total (λ i _. at k i)

-- a sum over the entries of all directories
abbrev pub over : (List Entry → ℕ) → List Node → ℕ
over g = total (λ _ b. g (entries (b ∷ [])))

-- how often an id is named, in all; and how often a name is in a directory past once
abbrev pub names_of : ℕ → List Node → ℕ
names_of k = over (of_id k)

abbrev too_many : Name → List Node → ℕ
too_many n = over (λ es. of_name n es - 1)

-- all is well, but for x: so often an id is owed a name yet
pub record Sound (x : ℕ → ℕ) (w : ℕ) (ts : List Node) : Type 0 where
  pub once : (k : ℕ) → with_id k ts ≤ 1
  pub low : (k : ℕ) → w ≤ k → with_id k ts ≡ 0
  pub even : (k : ℕ) → names_of k ts + (at k 0 + x k) ≡ with_id k ts
  pub apart : (n : Name) → too_many n ts ≡ 0

-- what one change of a directory changes
found_same : (bs : List Body) (k : ℕ) → of_found (λ _. k) bs ≡ if_found bs k
unfolding of_found if_found
found_same [] k = refl
found_same (b ∷ bs) k = refl

pub id_with : (k i : ℕ) (b : Body) (ts : List Node) → with_id k (with_body i b ts) ≡ with_id k ts
id_with k i b ts = omega (arith, total_with (λ j _. at k j) i b ts, found_same (find_node i ts) (at k i))

over_with : (g : List Entry → ℕ) (d : ℕ) (es : List Entry) (ts : List Node) → is_dir (find_node d ts) ≡ true →
    over g (with_body d (dir es) ts) + g (entries (find_node d ts)) ≡ over g ts + g es
unfolding entries is_dir of_found if_found
over_with g d es ts h = let t = total_with (λ _ b. g (entries (b ∷ []))) d (dir es) ts in grind arith

found_entries : (g : List Entry → ℕ) (bs : List Body) → g [] ≡ 0 → of_found (λ b. g (entries (b ∷ []))) bs ≡ g (entries bs)
unfolding of_found entries
found_entries g [] z = sym z
found_entries g (dir x ∷ bs) z = refl
found_entries g (file x ∷ bs) z = refl

-- what has entries is there
pub some_in : (g : List Entry → ℕ) (bs : List Body) → g [] ≡ 0 → 0 < g (entries bs) → some_of bs ≡ true
unfolding entries some_of
some_in g [] z h = absurd (omega arith)
some_in g (b ∷ bs) z h = refl

-- a directory, and the rest
pub found_left : (g : List Entry → ℕ) (i : ℕ) (ts : List Node) → g [] ≡ 0 →
    over g (without_node i ts) + g (entries (find_node i ts)) ≡ over g ts
found_left g i ts z = omega (arith, total_without (λ _ b. g (entries (b ∷ []))) i ts, found_entries g (find_node i ts) z)

-- and of what is left where an empty node goes
over_without : (g : List Entry → ℕ) (i : ℕ) (ts : List Node) → g [] ≡ 0 → entries (find_node i ts) ≡ [] →
    over g (without_node i ts) ≡ over g ts
over_without g i ts z h = omega (arith, found_left g i ts z, ap g h)

pub found_over : (g : List Entry → ℕ) (i : ℕ) (ts : List Node) → g [] ≡ 0 → g (entries (find_node i ts)) ≤ over g ts
found_over g i ts z = omega (arith, found_left g i ts z)

pub found_id : (k : ℕ) (ts : List Node) → 0 < with_id k ts → some_of (find_node k ts) ≡ true
unfolding total find_node at some_of
found_id k [] h = absurd (omega arith)
found_id k (t ∷ ts) h = let ih = found_id k ts in grind arith

if_there : (bs : List Body) (k : ℕ) → some_of bs ≡ true → if_found bs k ≡ k
unfolding if_found some_of
if_there bs k h = grind arith

pub id_without : (k i : ℕ) (ts : List Node) → some_of (find_node i ts) ≡ true → with_id k (without_node i ts) + at k i ≡ with_id k ts
id_without k i ts h =
    omega (arith, total_without (λ j _. at k j) i ts, found_same (find_node i ts) (at k i), if_there (find_node i ts) (at k i) h)

pub id_found : (k : ℕ) (ts : List Node) → some_of (find_node k ts) ≡ true → 0 < with_id k ts
id_found k ts h = omega (arith, id_without k k ts h, at_same k)

pub at_cases : (k i : ℕ) → (at k i ≡ 0) ⊎ ((at k i ≡ 1) × (k ≡ i))
unfolding at
at_cases k i = grind (arith, nat_tests)

called_cases : (n m : Name) → (called n m ≡ 0) ⊎ ((called n m ≡ 1) × (n ≡ m))
unfolding called
called_cases n m = let k = same_is n m in grind arith

-- a name is dropped: what it named is owed a name
pub unlinks : (x : ℕ → ℕ) (w d : ℕ) (n : Name) (i : ℕ) (is : List ℕ) (ts : List Node) → is_dir (find_node d ts) ≡ true →
    find_name n (entries (find_node d ts)) ≡ i ∷ is → Sound x w ts →
    Sound (λ k. x k + at k i) w (with_body d (dir (without_name n (entries (find_node d ts)))) ts)
unlinks x w d n i is ts h e s =
    let es : List Entry = entries (find_node d ts) in
    let es' : List Entry = without_name n es in
    record {
      once = λ k. omega (arith, s.once k, id_with k d (dir es') ts);
      low = λ k p. id_with k d _ ts ∙ s.low k p;
      even =
          λ k. omega (
            arith,
            s.even k,
            id_with k d (dir es') ts,
            over_with (of_id k) d es' ts h,
            sum_without (λ _ j. at k j) n es i is
                e,
          );
      apart = λ m. omega (arith, s.apart m, over_with (λ z. of_name m z - 1) d es' ts h, sum_without (λ y _. called m y) n es i is e);
    }

-- what is owed a name gets one
pub links : (x : ℕ → ℕ) (w d : ℕ) (n : Name) (i : ℕ) (ts : List Node) → is_dir (find_node d ts) ≡ true →
    find_name n (entries (find_node d ts)) ≡ [] → Sound (λ k. x k + at k i) w ts →
    Sound x w (with_body d (dir (entries (find_node d ts) ++ (record { name = n; id = i } ∷ []))) ts)
unfolding sum
links x w d n i ts h e s =
    let es : List Entry = entries (find_node d ts) in
    let more : List Entry = record { name = n; id = i } ∷ [] in
    record {
      once = λ k. omega (arith, s.once k, id_with k d (dir (es ++ more)) ts);
      low = λ k p. id_with k d _ ts ∙ s.low k p;
      even =
          λ k. omega (
            arith,
            s.even k,
            id_with k d (dir (es ++ more)) ts,
            over_with (of_id k) d (es ++ more) ts h,
            sum-append (λ _ j. at k j) es more,
          );
      apart = λ m. go m (called_cases m n) (over_with (λ z. of_name m z - 1) d (es ++ more) ts h)
          (sum-append (λ y _. called m y) es more);
    }
  where
    go : (m : Name) → (called m n ≡ 0) ⊎ ((called m n ≡ 1) × (m ≡ n)) →
        too_many m (with_body d (dir (entries (find_node d ts) ++ (record { name = n; id = i } ∷ []))) ts) +
        (of_name m (entries (find_node d ts)) - 1) ≡ too_many m ts +
        (of_name m (entries (find_node d ts) ++ (record { name = n; id = i } ∷ [])) - 1) →
        of_name m (entries (find_node d ts) ++ (record { name = n; id = i } ∷ [])) ≡ of_name m (entries (find_node d ts)) +
        (called m n + 0) →
        too_many m (with_body d (dir (entries (find_node d ts) ++ (record { name = n; id = i } ∷ []))) ts) ≡ 0
    go m (inl z) p q = omega (arith, s.apart m)
    go m (inr z) p q = omega (arith, s.apart m, rw (← z.1) at (unnamed n (entries (find_node d ts)) e))

-- what is owed a name goes, if nothing is in it
pub drops : (x : ℕ → ℕ) (w i : ℕ) (ts : List Node) → entries (find_node i ts) ≡ [] → Sound (λ k. x k + at k i) w ts →
    Sound x w (without_node i ts)
unfolding sum
drops x w i ts h s =
    let there : some_of (find_node i ts) ≡ true = found_id i ts (omega (arith, s.even i, at_same i)) in
    record {
      once = λ k. omega (arith, s.once k, id_without k i ts there);
      low = λ k p. omega (arith, s.low k p, id_without k i ts there);
      even = λ k. omega (arith, s.even k, id_without k i ts there, over_without (of_id k) i ts refl h);
      apart = λ m. over_without (λ z. of_name m z - 1) i ts refl h ∙ s.apart m;
    }

-- a new node is owed a name
pub adds : (x : ℕ → ℕ) (w : ℕ) (b : Body) (ts : List Node) → entries (b ∷ []) ≡ [] → Sound x w ts →
    Sound (λ k. x k + at k w) (suc w) (ts ++ (record { id = w; body = b } ∷ []))
unfolding total sum
adds x w b ts h s =
    let new : List Node = record { id = w; body = b } ∷ [] in
    record {
      once = λ k. rw (total-append (λ i _. at k i) ts new) (newest k (at_cases k w));
      low = λ k p. rw (total-append (λ i _. at k i) ts new) (omega (arith, s.low k (omega arith), at_other k w (λ e. omega arith)));
      even =
          λ k. rw (total-append (λ i _. at k i) ts new, total-append (λ _ z. of_id k (entries (z ∷ []))) ts new, h)
          (omega (arith, s.even k));
      apart = λ m. rw (total-append (λ _ z. of_name m (entries (z ∷ [])) - 1) ts new, h) (omega (arith, s.apart m));
    }
  where
    newest : (k : ℕ) → (at k w ≡ 0) ⊎ ((at k w ≡ 1) × (k ≡ w)) → with_id k ts + (at k w + 0) ≤ 1
    newest k (inl z) = omega (arith, s.once k)
    newest k (inr z) = omega (arith, s.low k (omega arith))
