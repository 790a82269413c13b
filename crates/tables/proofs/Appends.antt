-- The superblock's words with an item more in its journal.
use Rattle.std.proofs.Common.{◌≡◌, ℕ, ◌+◌, ◌-◌, Bool, List, [], ◌∷◌, ◌++◌, length, take, drop, replicate, sym, ap, ◌∙◌, ap₂, append_assoc, append-nil, arith, length-append, take_at, drop_at}
use borrow.Rule.Slice.PartMut.{put_mid}
use Rattle.std.proofs.lemmas.List.{drop-replicate}
use Rattle.blocks.specs.Words.{pad}
use Rattle.blocks.proofs.Joins.{joined_append}
use Rattle.model.specs.Refusals.{Limits}
use Rattle.machine.specs.State.{Item, Counts}
use Rattle.machine.specs.Journal.{bit_word, item_words, journal_words}
use Rattle.machine.specs.Layout.{mark, super_words}
use Rattle.tables.specs.Append.{item_added}

-- words put where the zeros of a table begin
put_last : (n at : ℕ) (front new : List ℕ) → length front ≡ at →
    put_mid at (length new) (pad n front) new ≡ pad n (front ++ new)
put_last n at front new l =
    let z : ℕ = n - length front in
    let Z : List ℕ = replicate z 0 in
    let k : ℕ = length new in
    let e1 : take at (front ++ Z) ≡ front = take_at front Z at l in
    let e2 : drop at (front ++ Z) ≡ Z = drop_at front Z at l in
    let e3 : drop k Z ≡ replicate (z - k) 0 = drop-replicate k z 0 in
    let e4 : n - length (front ++ new) ≡ z - k = let a = length-append front new in omega arith in
    let e5 : (front ++ new) ++ replicate (z - k) 0 ≡ front ++ (new ++ replicate (z - k) 0) =
    append_assoc front new (replicate (z - k) 0) in
    cc

module _ (l : Limits) (live : Bool) (base : Counts) (js : List Item) (i : Item) where
  abbrev J : List ℕ
  J = journal_words js

  abbrev I : List ℕ
  I = item_words i

  -- the words before the journal, where it has so many
  abbrev head : ℕ → List ℕ
  head k =
      mark ∷ l.room ∷ l.nodes_most ∷ l.pending ∷ bit_word live
      ∷ base.next ∷ base.nodes ∷ base.entries ∷ base.cells ∷ k ∷ 0 ∷ 0 ∷ 0 ∷ 0 ∷ 0 ∷ 0 ∷ []

  pub appended : pad 512 (super_words l live base (js ++ (i ∷ []))) ≡ item_added I (pad 512 (super_words l live base js))
  appended =
      let n : ℕ = length J in
      let k : ℕ = length I in
      let whole : journal_words (js ++ (i ∷ [])) ≡ J ++ I = joined_append item_words js (i ∷ []) ∙ ap (λ x. J ++ x) (append-nil I) in
      let long : length (journal_words (js ++ (i ∷ []))) ≡ n + k = ap length whole ∙ length-append J I in
      let left : pad 512 (super_words l live base (js ++ (i ∷ []))) ≡ pad 512 (head (n + k) ++ (J ++ I)) =
      ap₂ (λ x y. pad 512 (head x ++ y)) long whole in
      let lf : length (head (n + k) ++ J) ≡ 16 + n = omega arith in
      let put : put_mid (16 + n) k (pad 512 (head (n + k) ++ J)) I ≡ pad 512 ((head (n + k) ++ J) ++ I) =
      put_last 512 (16 + n) (head (n + k) ++ J) I lf in
      left ∙ sym put
