-- What a read answers, told by the file and the cells alone; and law 9: what is written is read back.
use Rattle.std.proofs.Common.{◌≡◌, ℕ, ◌<◌, Bool, true, false, cond, ◌&&◌, eqb, ltb, List, length, get_or, set, sym, refl, ap, ◌∙◌, subst, arith}
use Rattle.std.proofs.lemmas.List.{get_or-set_same, get_or-set_other}
use Rattle.std.proofs.lemmas.Bool.{lt-ltb}
use Rattle.std.proofs.lemmas.Bool.Decides.{nat_tests}
use Rattle.model.specs.Tree.{Body, Node, find_node, body_of, is_file, cells}
use Rattle.model.specs.Calls.{place, Block, Answer, call_number, good_fields, read, write, refused, block}
use Rattle.model.specs.Refusals.{Limits, refusal_by}
use Rattle.model.specs.Fs.{Cell, Fs, empty_cell, turned, written, with_cells, cell_at, changed, reply, answer}
use Rattle.model.specs.Laws.{ReadBack}
use Rattle.laws.proofs.Apart.{apart, Apart}
use Rattle.laws.proofs.Refused.{done_since}
use Rattle.laws.proofs.Places.{in_range, own_cell}

-- why a read of a file is refused, or 0

abbrev unread : Limits → List Body → ℕ → ℕ
unread l f o = cond (l.calls_can 7 && true) (cond (is_file f) (cond (ltb o (length (cells f))) 0 10) 4) 2

abbrev pub reading : Limits → List Body → List Cell → ℕ → Answer
reading l f cs o =
    cond (eqb (unread l f o) 0) (block (get_or cs (get_or (cells f) o 0) empty_cell).now) (refused (unread l f o) 0)

pub read_is : (l : Limits) (s : Fs) (i o : ℕ) → answer l s (read i o) ≡ reading l (body_of s.tree i) s.cells o
unfolding call_number good_fields refusal_by reply place
read_is l s i o = refl

-- only what the place has matters
pub read_same : (l : Limits) (f g : List Body) (cs ds : List Cell) (o : ℕ) → f ≡ g →
    (o < length (cells g) → (get_or cs (get_or (cells g) o 0) empty_cell).now ≡ (get_or ds (get_or (cells g) o 0) empty_cell).now) →
    reading l f cs o ≡ reading l g ds o
read_same l f g cs ds o z h = ap (λ u. reading l u cs o) z ∙ go (eqb (unread l g o) 0) refl
  where
    go : (b : Bool) → eqb (unread l g o) 0 ≡ b → reading l g cs o ≡ reading l g ds o
    go true e = rw e (ap block (h (grind (arith, nat_tests))))
    go false e = rw e

pub read_found : (l : Limits) (f : List Body) (cs : List Cell) (o : ℕ) → l.calls_can 7 ≡ true → is_file f ≡ true →
    o < length (cells f) → reading l f cs o ≡ block (get_or cs (get_or (cells f) o 0) empty_cell).now
read_found l f cs o c h lt = rw (c, h, lt-ltb o (length (cells f)) lt)

-- what a write that was taken tells
may_write : (l : Limits) (s : Fs) (i o : ℕ) (b : Block) → turned l s (write i o b) ≡ 0 →
    (is_file (body_of s.tree i) ≡ true) × (o < length (cells (body_of s.tree i)))
unfolding refusal_by
may_write l s i o b h = (grind (arith, nat_tests), grind (arith, nat_tests))

-- what law 9 says of the file system after the write
abbrev Back : Limits → Fs → ℕ → ℕ → Block → Fs → Type 0
Back l s i o b t =
    (answer l t (read i o) ≡ block b)
    × ((j p : ℕ) → ((j ≡ i) × (p ≡ o) → ⊥) → answer l t (read j p) ≡ answer l s (read j p))

pub read_back : (can : ℕ → Bool) → ReadBack can
unfolding ReadBack changed
read_back can l hs s good r i o b c h =
    let ts : List Node = s.tree.nodes in
    let k : ℕ = cell_at s i o in
    let new : Cell = written (get_or s.cells k empty_cell) b in
    let cs : List Cell = set s.cells k new in
    let (f, p) = may_write l s i o b h in
    let a : Apart (length s.cells) ts = apart l hs s r 0 in
    subst (Back l s i o b) (sym (done_since l s (write i o b) h)) (
      read_is l (with_cells cs s) i o ∙ (read_found l (find_node i ts) cs o (good.5 7 ∙ c) f p
          ∙ ap (λ (z : Cell). block z.now) (get_or-set_same s.cells k new empty_cell (in_range (length s.cells) ts a i o p))),
      λ j q ne. read_is l (with_cells cs s) j q ∙ (read_same l (find_node j ts) (find_node j ts) cs s.cells q refl
          (λ w. ap (λ (z : Cell). z.now)
          (get_or-set_other s.cells k (cell_at s j q) new empty_cell (own_cell (length s.cells) ts a i o j q p w ne)))
          ∙ sym (read_is l s j q)),
    )
