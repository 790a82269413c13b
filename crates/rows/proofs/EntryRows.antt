-- The rows of the table of entries: the chunks of sixteen words that an iterator gives, and a search among them.
use Rattle.std.proofs.Common.{◌≡◌, ℕ, zero, suc, ◌+◌, ◌*◌, ◌<◌, ◌≤◌, Bool, true, false, cond, eqb, ltb, List, [], ◌∷◌, ◌++◌, length, take, drop, Option, Some, None, inl, inr, ◌&&◌, refl, sym, ap, ◌∙◌, arith, rules, not, length-append, length-drop, length-take, take-take, drop-drop, take_at, drop_at}
use Rattle.std.proofs.lemmas.List.{drop-take}
use Rattle.std.proofs.lemmas.Bool.{lt-ltb, le-ltb}
use Rattle.std.specs.Option.{MatchOption, option_eq}
use Rattle.std.specs.Cmp.Lexicographic.{pointwise}
use Rattle.std.proofs.lemmas.Slice.Eq.{slice_eq-Decides, compares_Decides}
use Rattle.std.proofs.lemmas.Bool.Decides.{same_from_decides, Decides-eqb}
use mathlib.Core.Logic.{◌⊎◌}
use denote.Ref.{Bor}
use Rattle.std.specs.Slice.Iter.{chunks_exact_steps, chunks_exact_size, chunks_exact_rest}
use Rattle.std.specs.declared.slice.ChunksExact.{ChunksExact}
use Rattle.std.specs.Iterator.{AlwaysYields}
use Rattle.std.specs.List.{position_or_len}
use Rattle.std.proofs.lemmas.Iterator.{YieldsList}
use Rattle.model.specs.Tree.{same}
use Rattle.blocks.specs.Words.{part}
use Rattle.tables.specs.Lookup.{entry_key, name_row}
use Rattle.rows.specs.Found.{found}

-- so many rows, from the front
abbrev pub rows_of : ℕ → List ℕ → List (List ℕ)
rows_of zero ws = []
rows_of (suc n) ws = take 16 ws ∷ rows_of n (drop 16 ws)

abbrev pub test : List ℕ → List ℕ → Bool
test key row = ltb 9 (length row) && same key (part 1 9 row)

all_rows : (n : ℕ) (s : ChunksExact ℕ) → chunks_exact_size s ≡ 16 → length (chunks_exact_rest s) ≡ 16 * n →
    AlwaysYields chunks_exact_steps (λ (x : Bor (List ℕ)). x.now) s (rows_of n (chunks_exact_rest s))
all_rows zero s es el = λ x t st. let a = ap length st.1.0 in let b = length-append x.now (chunks_exact_rest t) in absurd (omega (arith, st.1.1, es))
all_rows (suc n) s es el = (
  λ t st. absurd (omega (arith, st.1.0, es)),
  λ x t st.
      let a : chunks_exact_rest s ≡ x.now ++ chunks_exact_rest t = st.1.0 in
      let l : length x.now ≡ 16 = st.1.1 ∙ es in
      let d : drop 16 (chunks_exact_rest s) ≡ chunks_exact_rest t = rw a (drop_at x.now (chunks_exact_rest t) 16 l) in
      let i : x.now ≡ take 16 (chunks_exact_rest s) = rw a (sym (take_at x.now (chunks_exact_rest t) 16 l)) in
      let len : length (chunks_exact_rest t) ≡ 16 * n = rw (← d) (simp length-drop (omega arith)) in
      (i, rw d (all_rows n t (st.0 ∙ es) len)),
)

first_or_later : (b : Bool) (x y : ℕ) → x ≡ y → cond (not b) (1 + x) 0 ≡ cond b 0 (suc y)
first_or_later true x y e = refl
first_or_later false x y e = omega arith

-- the first of them that has the key
first_row_is : (key es : List ℕ) (n k : ℕ) → 16 * (k + n) ≤ length es → position_or_len (test key) (rows_of n (drop (16 * k) es)) ≡ name_row key n k es
first_row_is key es zero k h = refl
first_row_is key es (suc n) k h =
    let ws : List ℕ = drop (16 * k) es in
    let d : drop 16 ws ≡ drop (16 * (k + 1)) es = drop-drop 16 (16 * k) es ∙ ap (λ i. drop i es) (omega arith) in
    let e1 : drop 1 (take (1 + 15) ws) ≡ take 15 (drop 1 ws) = drop-take 1 15 ws in
    let e2 : drop 1 ws ≡ drop (16 * k + 1) es = drop-drop 1 (16 * k) es in
    let e3 : take 9 (take 15 (drop (16 * k + 1) es)) ≡ take 9 (drop (16 * k + 1) es) = take-take 9 15 (drop (16 * k + 1) es) (omega arith) in
    let p : part 1 9 (take 16 ws) ≡ entry_key es k = ap (take 9) (e1 ∙ ap (take 15) e2) ∙ e3 in
    let l : ltb 9 (length (take 16 ws)) ≡ true = lt-ltb 9 (length (take 16 ws)) (simp (length-take, length-drop) (omega arith)) in
    let t : test key (take 16 ws) ≡ same key (entry_key es k) = rw l (ap (same key) p) in
    let ih : position_or_len (test key) (rows_of n (drop 16 ws)) ≡ name_row key n (k + 1) es = rw d (first_row_is key es n (k + 1) (omega arith)) in
    rw t (first_or_later (same key (entry_key es k)) _ _ ih)

rows_long : (n : ℕ) (ws : List ℕ) → length (rows_of n ws) ≡ n
rows_long zero ws = refl
rows_long (suc n) ws = ap suc (rows_long n (drop 16 ws))

rows_whole : (n : ℕ) (ws : List ℕ) → rows_of n (take (16 * n) ws) ≡ rows_of n ws
rows_whole zero ws = refl
rows_whole (suc n) ws =
    let s : 16 * suc n ≡ 16 + 16 * n = omega arith in
    let a : take 16 (take (16 + 16 * n) ws) ≡ take 16 ws = take-take 16 (16 + 16 * n) ws (omega arith) in
    let b : drop 16 (take (16 + 16 * n) ws) ≡ take (16 * n) (drop 16 ws) = drop-take 16 (16 * n) ws in
    rw (s, a, b, rows_whole n (drop 16 ws)) refl

pub rows_yield : (n : ℕ) (s : ChunksExact ℕ) (ws : List ℕ) → chunks_exact_size s ≡ 16 → chunks_exact_rest s ≡ ws → length ws ≡ 16 * n →
    YieldsList chunks_exact_steps (λ (x : Bor (List ℕ)). x.now) s (rows_of n ws)
rows_yield n s ws es er el = record { runs = rw (← er) (all_rows n s es (ap length er ∙ el)) }

pub row_found : (key es part : List ℕ) (r : Option ℕ) (first count : ℕ) → 16 * (first + count) ≤ length es → part ≡ take (16 * count) (drop (16 * first) es) →
    r ≡ cond (ltb (position_or_len (test key) (rows_of count part)) (length (rows_of count part))) (Some (position_or_len (test key) (rows_of count part))) None →
    r ≡ found count (name_row key count first es)
row_found key es part r first count h e er =
    let p : rows_of count part ≡ rows_of count (drop (16 * first) es) = ap (rows_of count) e ∙ rows_whole count (drop (16 * first) es) in
    let q : position_or_len (test key) (rows_of count part) ≡ name_row key count first es = ap (position_or_len (test key)) p ∙ first_row_is key es count first h in
    let l : length (rows_of count part) ≡ count = rows_long count part in
    er ∙ rw (q, l) refl

-- what a row's words from its second on, if it has ten, say when they are compared with a key
pub has_key_is : (row : List ℕ) (key : Bor (List ℕ)) (r : Option (Bor (List ℕ))) (b : Bool) →
    MatchOption r (10 < 1 ⊎ length row < 10) (λ x. (1 ≤ 10) × (10 ≤ length row) × (x.now ≡ part 1 9 row) × (length x.now + 1 ≡ 10)) →
    b ≡ option_eq (λ x y. pointwise eqb x.now y.now) r (Some key) → b ≡ test key.now row
unfolding same
has_key_is row key None b m e = let l : ltb 9 (length row) ≡ false = le-ltb 9 (length row) (elim m [ inl x ↦ absurd (omega (arith, x)) | inr x ↦ omega (arith, x) ]) in rw l e
has_key_is row key (Some x) b m e =
    let l : ltb 9 (length row) ≡ true = lt-ltb 9 (length row) (omega (arith, m.1)) in
    let d = slice_eq-Decides Decides-eqb x.now key.now b e in
    rw (l, ← m.2)
    (same_from_decides b (same key.now x.now) (λ q. sym (d.0 q), λ q. d.1 (sym q)) (compares_Decides same (search rules) key.now x.now))
