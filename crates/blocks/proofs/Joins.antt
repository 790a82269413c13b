-- Rows of the same width, one after another: how long they are, and what stands from a row on.
use Rattle.std.proofs.Common.{◌≡◌, ℕ, zero, suc, ◌+◌, ◌*◌, ◌<◌, ◌≤◌, List, [], ◌∷◌, ◌++◌, length, get_or, drop, sym, refl, ap, ◌∙◌, append_assoc, mul-le-mul_left, mul-zero, mul-suc, arith, length-append, drop-drop, drop_at}
use lib.Seq.{drop-nil, drop-append-le}
use Rattle.std.proofs.lemmas.List.{drop_more}
use Rattle.std.specs.List.{flat_map}

pub joined_append : {X A : Type 0} (f : X → List A) (xs ys : List X) → flat_map f (xs ++ ys) ≡ flat_map f xs ++ flat_map f ys
joined_append f [] ys = refl
joined_append f (x ∷ xs) ys =
    ap (λ r. f x ++ r) (joined_append f xs ys) ∙ sym (append_assoc (f x) (flat_map f xs) (flat_map f ys))

module _ {X A : Type 0} (w : ℕ) (f : X → List A) (wide : (x : X) → length (f x) ≡ w) where
  pub length_joined : (xs : List X) → length (flat_map f xs) ≡ w * length xs
  length_joined [] = sym (mul-zero w)
  length_joined (x ∷ xs) =
      length-append (f x) (flat_map f xs)
      ∙ (let a = wide x in
      let b = length_joined xs in
      let c : w * suc (length xs) ≡ w * length xs + w = mul-suc w (length xs) in
      omega arith)

  pub drop_joined : (k : ℕ) (xs : List X) → drop (w * k) (flat_map f xs) ≡ flat_map f (drop k xs)
  drop_joined zero xs = ap (λ n. drop n (flat_map f xs)) (mul-zero w)
  drop_joined (suc k) [] = drop-nil (w * suc k)
  drop_joined (suc k) (x ∷ xs) =
      let e1 : w * suc k ≡ w + w * k = let m : w * suc k ≡ w * k + w = mul-suc w k in omega arith in
      let e2 : drop (w * k) (drop w (f x ++ flat_map f xs)) ≡ drop (w + w * k) (f x ++ flat_map f xs) =
      drop-drop (w * k) w (f x ++ flat_map f xs) in
      let e3 : drop w (f x ++ flat_map f xs) ≡ flat_map f xs = drop_at (f x) (flat_map f xs) w (wide x) in
      let e4 : drop (w * k) (flat_map f xs) ≡ flat_map f (drop k xs) = drop_joined k xs in
      cc

  -- what stands in a table from a row on
  pub drop-row : (front back : List A) (xs : List X) (first k : ℕ) (d : X) → length front ≡ first → k < length xs →
      drop (first + w * k) (front ++ (flat_map f xs ++ back)) ≡ f (get_or xs k d) ++ (flat_map f (drop (k + 1) xs) ++ back)
  drop-row front back xs first k d place lt =
      let J : List A = flat_map f xs in
      let W : List A = front ++ (J ++ back) in
      let l : length J ≡ w * length xs = length_joined xs in
      let m : w * k ≤ w * length xs = mul-le-mul_left w (omega arith) in
      let e1 : drop first W ≡ J ++ back = drop_at front (J ++ back) first place in
      let e2 : drop (w * k) (J ++ back) ≡ drop (w * k) J ++ back = drop-append-le (w * k) J back (omega arith) in
      let e3 : drop (w * k) J ≡ flat_map f (drop k xs) = drop_joined k xs in
      let e4 : drop k xs ≡ get_or xs k d ∷ drop (k + 1) xs = drop_more xs k d lt in
      let e5 : drop (w * k) (drop first W) ≡ drop (first + w * k) W = drop-drop (w * k) first W in
      let e6 : (f (get_or xs k d) ++ flat_map f (drop (k + 1) xs)) ++ back ≡ f (get_or xs k d) ++ (flat_map f (drop (k + 1) xs) ++ back) =
      append_assoc (f (get_or xs k d)) _ back in
      cc
