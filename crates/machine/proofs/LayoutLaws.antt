-- The layout keeps the laws of an encoding: memory decodes to the state that it encodes, a disk that was written loads as
-- what was written, memory and checkpoints are as small as promised, and all blocks are blocks.
use Rattle.std.proofs.Common.{◌≡◌, ℕ, zero, suc, ◌+◌, ◌-◌, ◌*◌, ◌^◌, ◌<◌, ◌≤◌, Bool, true, false, eqb, ltb, leb, List, [], ◌∷◌, ◌++◌, length, get_or, take, drop, replicate, sym, refl, ap, ◌∙◌, subst, ap₂, append_assoc, arith, length-append, length-take, drop-drop, take_at, drop_at}
use Rattle.std.specs.List.{flat_map}
use Rattle.std.proofs.lemmas.List.{drop_more}
use Rattle.std.proofs.lemmas.Bool.{leb-true, eq-eqb, and_from, lt-ltb}
use Rattle.blocks.specs.Words.{pad, part, bytes_of, chunks}
use Rattle.blocks.specs.Blocks.{blocks_count, blocks_of, table_blocks, loaded}
use Rattle.blocks.specs.Bits.{bits_of, bits_words}
use Rattle.blocks.proofs.Words.{Bytes, Small, small_words, small-append, small_zeros, small_pad, length-pad}
use Rattle.blocks.proofs.Blocks.{table_back, block_back, length_blocks, length-block, bytes_joined}
use Rattle.blocks.proofs.Bits.{bits_back, small_bits_words, length-bits_words}
use Rattle.model.specs.Tree.{Node, Tree, all_cells}
use Rattle.model.specs.Calls.{Block, empty_block, bytes}
use Rattle.model.specs.Refusals.{Limits}
use Rattle.model.specs.World.{blocks_for}
use Rattle.model.specs.Promise.{all_below}
use Rattle.machine.specs.State.{Sized, Item, Counts, counts_of, entry_count, State, own}
use Rattle.machine.specs.Program.{Root, area_start}
use Rattle.machine.specs.Tables.{node_words, sum_words, entry_words, cell_words, nodes_from, tree_from}
use Rattle.machine.specs.Journal.{bit_word, journal_words, journal_from}
use Rattle.machine.specs.Layout.{bitmap_size, at_nodes, at_sums, at_entries, at_cells, at_held, at_fresh, super_words, live_from}
use Rattle.machine.specs.Layout.{counts_from, super_journal, super_block, head_words, tables, memory, state_from, checkpoint_blocks}
use Rattle.machine.specs.Layout.{checkpoint_size, live_area, base_from, root_from, layout}
use Rattle.machine.specs.Fits.{ok_journal, Fits}
use Rattle.machine.specs.Bounds.{AreasApart, CheckpointsFit, MemoryFits, Decodes, Loads}
use Rattle.machine.proofs.Invariant.{Laws, good_block}
use Rattle.machine.proofs.Fits.{fits_new, fits_next, cells_few}
use Rattle.machine.proofs.Tables.{Few, nodes_back, length-nodes, length-entries, length-sums, cells_are, small_node_words}
use Rattle.machine.proofs.Tables.{small_sum_words, small_entry_words, small_below}
use Rattle.machine.proofs.JournalWords.{journal_read, small_journal, bit_small}
use Rattle.machine.proofs.JournalCalls.{ok_next}

-- COUNTS of a tree that fits
module _ (l : Limits) (sz : Sized l) (t : Tree) (f : Fits l t) where
  pub few_words : Few 65537 t.nodes
  few_words =
      let a = f.named_few in
      let b = f.few in
      let c = cells_few l t f in
      let m = sz.2 in
      let r = sz.0 in
      (omega arith, omega arith)

  nodes_fit : length (node_words t.nodes) ≤ 4 * l.nodes_most
  nodes_fit = let a = length-nodes t.nodes in let b = f.few in omega arith

  sums_fit : length (sum_words 0 0 t.nodes) ≤ 2 * l.nodes_most
  sums_fit = let a = length-sums 0 0 t.nodes in let b = f.few in omega arith

  entries_fit : length (entry_words t.nodes) ≤ 16 * l.nodes_most
  entries_fit = let a = length-entries t.nodes in let b = f.few in let c = f.named_few in omega arith

  cells_fit : length (cell_words t.nodes) ≤ l.room
  cells_fit = let a = ap length (cells_are t.nodes) in let b = cells_few l t f in omega arith

  small_next : t.next ≤ 2 ^ 32
  small_next = let a = f.small in omega arith

  small_nodes : Small (node_words t.nodes)
  small_nodes = small_node_words t.next 65537 t.nodes small_next (omega arith) f.ok few_words

  small_entries : Small (entry_words t.nodes)
  small_entries = small_entry_words t.next t.nodes small_next f.ok

  small_sums : Small (sum_words 0 0 t.nodes)
  small_sums = let p = few_words.0 in let q = few_words.1 in small_sum_words 65537 0 0 t.nodes (omega arith) (omega arith)
      (omega arith)

  small_cells : Small (cell_words t.nodes)
  small_cells =
      let r = sz.0 in
      subst Small (sym (cells_are t.nodes)) (small_below l.room (all_cells t.nodes) (omega arith) f.inside)

-- THE SUPERBLOCK. What is read of its words, padded
module _ (l : Limits) (live : Bool) (base : Counts) (js : List Item) where
  live_back : live_from (pad 512 (super_words l live base js)) ≡ live
  live_back = bit live
    where
      bit : (b : Bool) → eqb (bit_word b) 1 ≡ b
      bit true = refl
      bit false = refl

  journal_back : ok_journal js ≡ true → super_journal (pad 512 (super_words l live base js)) ≡ js
  journal_back ok =
      let J : List ℕ = journal_words js in
      ap journal_from (take_at J (replicate (512 - length (super_words l live base js)) 0) (length J) refl) ∙ journal_read js ok

  super_long : leb (length (journal_words js)) 496 ≡ true → length (super_words l live base js) ≤ 512
  super_long h = let a = leb-true (length (journal_words js)) 496 h in omega arith

small_super : (l : Limits) (live : Bool) (t : Tree) (js : List Item) → Sized l → Fits l t → leb (length (journal_words js)) 496 ≡ true →
    ok_journal js ≡ true →
    Small (super_words l live (counts_of t) js)
small_super l live t js sz f h ok =
    let r = sz.0 in
    let n = sz.2 in
    let p = sz.4 in
    let a = f.small in
    let b = f.few in
    let c = (few_words l sz t f).0 in
    let d = (few_words l sz t f).1 in
    let j = leb-true (length (journal_words js)) 496 h in (
      omega arith,
      (
        omega arith,
        (
          omega arith,
          (
            omega arith,
            (
              bit_small live,
              (
                omega arith,
                (
                  omega arith,
                  (
                    omega arith,
                    (
                      omega arith,
                      (omega arith, small-append (0 ∷ 0 ∷ 0 ∷ 0 ∷ 0 ∷ 0 ∷ []) (journal_words js) (small_zeros 6) (small_journal js ok)),
                    ),
                  ),
                ),
              ),
            ),
          ),
        ),
      ),
    )

-- TABLES one after another: the first of them, and what follows it
next_table : (mem X Y : List ℕ) (a n : ℕ) → drop a mem ≡ X ++ Y → length X ≡ n → (part a n mem ≡ X) × (drop (a + n) mem ≡ Y)
next_table mem X Y a n e l =
    (ap (take n) e ∙ take_at X Y n l, sym (drop-drop n a mem) ∙ (ap (drop n) e ∙ drop_at X Y n l))

state_same : (st : State) (t : Tree) (o : ℕ) (h f : List Bool) (v : Bool) (b : Counts) (js : List Item) (w : Bool) →
    t ≡ st.tree → o ≡ st.older → h ≡ st.held → f ≡ st.fresh → v ≡ st.live → b ≡ st.base → js ≡ st.journal → w ≡ st.over →
    ◌≡◌ {A = State} (record { tree = t; older = o; held = h; fresh = f; live = v; base = b; journal = js; over = w }) st
state_same st t o h f v b js w p q r s x y z u = rw (p, q, r, s, x, y, z, u)

module _ (l : Limits) (st : State) (sz : Sized l) (ft : Fits l st.tree) (lh : length st.held ≡ l.room)
    (lf : length st.fresh ≡ l.room)
    (jf : leb (length (journal_words st.journal)) 496 ≡ true) (ok : ok_journal st.journal ≡ true) where
  abbrev ts : List Node
  ts = st.tree.nodes

  abbrev W : List ℕ
  W = super_words l st.live st.base st.journal

  abbrev N : List ℕ
  N = pad (4 * l.nodes_most) (node_words ts)

  abbrev U : List ℕ
  U = pad (2 * l.nodes_most) (sum_words 0 0 ts)

  abbrev E : List ℕ
  E = pad (16 * l.nodes_most) (entry_words ts)

  abbrev C : List ℕ
  C = pad l.room (cell_words ts)

  abbrev H : List ℕ
  H = bits_words (bitmap_size l) st.held

  abbrev F : List ℕ
  F = bits_words (bitmap_size l) st.fresh

  abbrev O : List ℕ
  O = bits_words (bitmap_size l) (own l st.tree)

  abbrev mem : List ℕ
  mem = memory l st

  long_N : length N ≡ 4 * l.nodes_most
  long_N = length-pad (4 * l.nodes_most) (node_words ts) (nodes_fit l sz st.tree ft)

  long_U : length U ≡ 2 * l.nodes_most
  long_U = length-pad (2 * l.nodes_most) (sum_words 0 0 ts) (sums_fit l sz st.tree ft)

  long_E : length E ≡ 16 * l.nodes_most
  long_E = length-pad (16 * l.nodes_most) (entry_words ts) (entries_fit l sz st.tree ft)

  long_C : length C ≡ l.room
  long_C = length-pad l.room (cell_words ts) (cells_fit l sz st.tree ft)

  long_W : length (pad 512 W) ≡ 512
  long_W = length-pad 512 W (super_long l st.live st.base st.journal jf)

  -- each table is where the layout says
  at_0 : (part 16 512 mem ≡ pad 512 W) × (drop 528 mem ≡ tables l st)
  at_0 = next_table mem (pad 512 W) (tables l st) 16 512 refl long_W

  at_1 : (part at_nodes (4 * l.nodes_most) mem ≡ N) × (drop (at_sums l) mem ≡ U ++ (E ++ (C ++ (H ++ (F ++ O)))))
  at_1 = next_table mem N (U ++ (E ++ (C ++ (H ++ (F ++ O))))) at_nodes (4 * l.nodes_most) at_0.1 long_N

  at_2 : (part (at_sums l) (2 * l.nodes_most) mem ≡ U) × (drop (at_entries l) mem ≡ E ++ (C ++ (H ++ (F ++ O))))
  at_2 = next_table mem U (E ++ (C ++ (H ++ (F ++ O)))) (at_sums l) (2 * l.nodes_most) at_1.1 long_U

  at_3 : (part (at_entries l) (16 * l.nodes_most) mem ≡ E) × (drop (at_cells l) mem ≡ C ++ (H ++ (F ++ O)))
  at_3 = next_table mem E (C ++ (H ++ (F ++ O))) (at_entries l) (16 * l.nodes_most) at_2.1 long_E

  at_4 : (part (at_cells l) l.room mem ≡ C) × (drop (at_held l) mem ≡ H ++ (F ++ O))
  at_4 = next_table mem C (H ++ (F ++ O)) (at_cells l) l.room at_3.1 long_C

  at_5 : (part (at_held l) (bitmap_size l) mem ≡ H) × (drop (at_fresh l) mem ≡ F ++ O)
  at_5 = next_table mem H (F ++ O) (at_held l) (bitmap_size l) at_4.1 (length-bits_words (bitmap_size l) st.held)

  at_6 : part (at_fresh l) (bitmap_size l) mem ≡ F
  at_6 = (next_table mem F O (at_fresh l) (bitmap_size l) at_5.1 (length-bits_words (bitmap_size l) st.fresh)).0

  tree_back : tree_from st.tree.next (length ts) (part at_nodes (4 * l.nodes_most) mem)
      (part (at_entries l) (16 * l.nodes_most) mem) (part (at_cells l) l.room mem) ≡ st.tree
  tree_back =
      rw (at_1.0, at_3.0, at_4.0)
      (ap {B = Tree} (λ (us : List Node). record { nodes = us; next = st.tree.next })
      (nodes_back st.tree.next ts (replicate (4 * l.nodes_most - length (node_words ts)) 0)
      (replicate (16 * l.nodes_most - length (entry_words ts)) 0)
      (replicate (l.room - length (cell_words ts)) 0) ft.ok))

  bits_are : (bs : List Bool) (ws : List ℕ) → length bs ≡ l.room → ws ≡ bits_words (bitmap_size l) bs → take l.room (bits_of ws) ≡ bs
  bits_are bs ws e w =
      let r : length bs ≤ 64 * bitmap_size l = omega arith in
      ap₂ (λ n x. take n (bits_of x)) (sym e) w ∙ bits_back (bitmap_size l) bs r

  bit_back : (b : Bool) → eqb (bit_word b) 1 ≡ b
  bit_back true = refl
  bit_back false = refl

  pub state_back : state_from l (memory l st) ≡ st
  state_back =
      state_same st _ _ _ _ _ _ _ _ tree_back refl
      (bits_are st.held (part (at_held l) (bitmap_size l) mem) lh at_5.0)
      (bits_are st.fresh (part (at_fresh l) (bitmap_size l) mem) lf at_6)
      (ap live_from at_0.0 ∙ live_back l st.live st.base st.journal)
      (ap counts_from at_0.0)
      (ap super_journal at_0.0 ∙ journal_back l st.live st.base st.journal ok)
      (bit_back st.over)

  long_mem : length (memory l st) ≡ 528 + (22 * l.nodes_most + (l.room + 3 * bitmap_size l))
  long_mem =
      let a0 = length-append (pad 512 W) (tables l st) in
      let a1 = length-append N (U ++ (E ++ (C ++ (H ++ (F ++ O))))) in
      let a2 = length-append U (E ++ (C ++ (H ++ (F ++ O)))) in
      let a3 = length-append E (C ++ (H ++ (F ++ O))) in
      let a4 = length-append C (H ++ (F ++ O)) in
      let a5 = length-append H (F ++ O) in
      let a6 = length-append F O in
      let b1 = long_N in let b2 = long_U in let b3 = long_E in let b4 = long_C in let b0 = long_W in
      let c1 = length-bits_words (bitmap_size l) st.held in
      let c2 = length-bits_words (bitmap_size l) st.fresh in
      let c3 = length-bits_words (bitmap_size l) (own l st.tree) in
      omega arith

  small_tables : Small (tables l st)
  small_tables =
      small-append N (U ++ (E ++ (C ++ (H ++ (F ++ O))))) (small_pad (4 * l.nodes_most) (node_words ts) (small_nodes l sz st.tree ft))
      (small-append U (E ++ (C ++ (H ++ (F ++ O)))) (small_pad (2 * l.nodes_most) (sum_words 0 0 ts) (small_sums l sz st.tree ft))
      (small-append E (C ++ (H ++ (F ++ O))) (small_pad (16 * l.nodes_most) (entry_words ts) (small_entries l sz st.tree ft))
      (small-append C (H ++ (F ++ O)) (small_pad l.room (cell_words ts) (small_cells l sz st.tree ft))
      (small-append H (F ++ O) (small_bits_words (bitmap_size l) st.held)
      (small-append F O (small_bits_words (bitmap_size l) st.fresh) (small_bits_words (bitmap_size l) (own l st.tree)))))))

  small_head : st.older ≤ l.pending → Small (head_words l st)
  small_head few =
      let r = sz.0 in
      let n = sz.2 in
      let p = sz.4 in
      let a = ft.small in
      let b = ft.few in
      let c = (few_words l sz st.tree ft).0 in
      let d = (few_words l sz st.tree ft).1 in (
        omega arith,
        (
          omega arith,
          (
            omega arith,
            (
              omega arith,
              (
                omega arith,
                (
                  omega arith,
                  (
                    omega arith,
                    (
                      omega arith,
                      (omega arith, (bit_small st.over, small_zeros 6)),
                    ),
                  ),
                ),
              ),
            ),
          ),
        ),
      )

  small_mem : (t : Tree) → Fits l t → st.base ≡ counts_of t → st.older ≤ l.pending → Small (memory l st)
  small_mem t fb eb few =
      let super : Small (pad 512 W) =
      subst (λ (x : Counts). Small (pad 512 (super_words l st.live x st.journal))) (sym eb)
      (small_pad 512 (super_words l st.live (counts_of t) st.journal)
      (small_super l st.live t st.journal sz fb jf ok)) in
      small-append (head_words l st) (pad 512 W ++ tables l st) (small_head few)
      (small-append (pad 512 W) (tables l st) super small_tables)

below_words : (ws : List ℕ) → Small ws → all_below 18446744073709551616 ws ≡ true
unfolding all_below
below_words [] h = refl
below_words (w ∷ ws) h =
    and_from (ltb w 18446744073709551616) (all_below 18446744073709551616 ws) (lt-ltb w 18446744073709551616 h.0)
    (below_words ws h.1)

-- THE DISK
bytes_true : (bs : List ℕ) → Bytes bs → bytes bs ≡ true
unfolding bytes
bytes_true [] h = refl
bytes_true (b ∷ bs) h = and_from (ltb b 256) (bytes bs) (lt-ltb b 256 (h 0)) (bytes_true bs (λ k. h (suc k)))

block_good : (ws : List ℕ) → length ws ≤ 512 → good_block (flat_map (bytes_of 8) (pad 512 ws)) ≡ true
block_good ws h =
    let B : Block = flat_map (bytes_of 8) (pad 512 ws) in
    and_from (eqb (length B) 4096) (bytes B) (eq-eqb (length B) 4096 (length-block ws h)) (bytes_true B (bytes_joined (pad 512 ws)))

abbrev AllGood : List Block → Type 0
AllGood bs = (j : ℕ) → j < length bs → good_block (get_or bs j empty_block) ≡ true

blocks_good : (n : ℕ) (ws : List ℕ) → AllGood (blocks_of n ws)
blocks_good zero ws j h = absurd (omega arith)
blocks_good (suc n) ws zero h = block_good (take 512 ws) (simp length-take (omega arith))
blocks_good (suc n) ws (suc j) h = blocks_good n (drop 512 ws) j (omega arith)

append_good : (xs ys : List Block) → AllGood xs → AllGood ys → AllGood (xs ++ ys)
append_good [] ys a b j h = b j h
append_good (x ∷ xs) ys a b zero h = a 0 (omega arith)
append_good (x ∷ xs) ys a b (suc j) h = append_good xs ys (λ i p. a (suc i) (omega arith)) b j (omega arith)

-- blocks that stand one after another, from a place on
from_place : (bs xs : List Block) (k : ℕ) → k + length xs ≤ length bs →
    ((j : ℕ) → j < length xs → get_or bs (k + j) empty_block ≡ get_or xs j empty_block) →
    drop k bs ≡ xs ++ drop (k + length xs) bs
from_place bs [] k h e = ap (λ n. drop n bs) (let q : k ≡ k + 0 = omega arith in q)
from_place bs (x ∷ xs) k h e =
    let d : drop k bs ≡ get_or bs k empty_block ∷ drop (k + 1) bs = drop_more bs k empty_block (omega arith) in
    let a : get_or bs k empty_block ≡ x = ap (λ n. get_or bs n empty_block) (let q : k ≡ k + 0 = omega arith in q) ∙ e 0 (omega arith) in
    let ih : drop (k + 1) bs ≡ xs ++ drop (k + 1 + length xs) bs =
    from_place bs xs (k + 1) (omega arith) (λ j p. ap (λ n. get_or bs n empty_block) (let q : k + 1 + j ≡ k + suc j = omega arith in
    q) ∙ e (suc j) (omega arith)) in
    let w : drop (k + 1 + length xs) bs ≡ drop (k + suc (length xs)) bs = ap (λ n. drop n bs) (omega arith) in
    d ∙ (ap (λ y. y ∷ drop (k + 1) bs) a ∙ ap (λ ys. x ∷ ys) (ih ∙ ap (λ ys. xs ++ ys) w))

pub length-checkpoint : (t : Tree) → length (checkpoint_blocks t)
    ≡ blocks_count (4 * length t.nodes) + (blocks_count (16 * entry_count t.nodes) + blocks_count (length (all_cells t.nodes)))
length-checkpoint t =
    let A : List ℕ = node_words t.nodes in
    let B : List ℕ = entry_words t.nodes in
    let C : List ℕ = cell_words t.nodes in
    let a = length-append (table_blocks A) (table_blocks B ++ table_blocks C) in
    let b = length-append (table_blocks B) (table_blocks C) in
    let x = length_blocks (blocks_count (length A)) A ∙ ap blocks_count (length-nodes t.nodes) in
    let y = length_blocks (blocks_count (length B)) B ∙ ap blocks_count (length-entries t.nodes) in
    let z = length_blocks (blocks_count (length C)) C ∙ ap (λ (cs : List ℕ). blocks_count (length cs)) (cells_are t.nodes) in
    omega arith

-- a checkpoint is read back
pub base_back : (l : Limits) (t : Tree) (rest : List Block) → Sized l → Fits l t →
    base_from (counts_of t) (checkpoint_blocks t ++ rest) ≡ t
base_back l t rest sz f =
    let A : List ℕ = node_words t.nodes in
    let B : List ℕ = entry_words t.nodes in
    let C : List ℕ = cell_words t.nodes in
    let n : ℕ = 4 * length t.nodes in
    let e : ℕ = 16 * entry_count t.nodes in
    let X : List Block = table_blocks A in
    let Y : List Block = table_blocks B in
    let Z : List Block = table_blocks C in
    let la : length A ≡ n = length-nodes t.nodes in
    let lb : length B ≡ e = length-entries t.nodes in
    let lc : length C ≡ length (all_cells t.nodes) = ap length (cells_are t.nodes) in
    let lx : length X ≡ blocks_count n = length_blocks (blocks_count (length A)) A ∙ ap blocks_count la in
    let ly : length Y ≡ blocks_count e = length_blocks (blocks_count (length B)) B ∙ ap blocks_count lb in
    let flat : (X ++ (Y ++ Z)) ++ rest ≡ X ++ (Y ++ (Z ++ rest)) = append_assoc X (Y ++ Z) rest
    ∙ ap (λ (bs : List Block). X ++ bs) (append_assoc Y Z rest) in
    let whole : List Block = (X ++ (Y ++ Z)) ++ rest in
    let d1 : drop (blocks_count n) whole ≡ Y ++ (Z ++ rest) = ap (drop (blocks_count n)) flat
    ∙ drop_at X (Y ++ (Z ++ rest)) (blocks_count n) lx in
    let d2 : drop (blocks_count n + blocks_count e) whole ≡ Z ++ rest =
    sym (drop-drop (blocks_count e) (blocks_count n) whole)
    ∙ (ap (drop (blocks_count e)) d1 ∙ drop_at Y (Z ++ rest) (blocks_count e) ly) in
    let p : loaded n whole ≡ A = ap₂ loaded (sym la) flat ∙ table_back A (Y ++ (Z ++ rest)) (small_words A (small_nodes l sz t f)) in
    let q : loaded e (drop (blocks_count n) whole) ≡ B = ap₂ loaded (sym lb) d1
    ∙ table_back B (Z ++ rest) (small_words B (small_entries l sz t f)) in
    let r : loaded (length (all_cells t.nodes)) (drop (blocks_count n + blocks_count e) whole) ≡ C =
    ap₂ loaded (sym lc) d2 ∙ table_back C rest (small_words C (small_cells l sz t f)) in
    ap {B = Tree} (λ (us : List Node). record { nodes = us; next = t.next })
    (ap (λ (x : List ℕ). nodes_from (length t.nodes) x (loaded e (drop (blocks_count n) whole))
    (loaded (length (all_cells t.nodes)) (drop (blocks_count n + blocks_count e) whole))) p
    ∙ (ap₂ (λ (x y : List ℕ). nodes_from (length t.nodes) A x y) q r
    ∙ (sym (ap₂ (λ (x : List ℕ) (y : List ℕ × List ℕ). nodes_from (length t.nodes) x y.0 y.1) (no_more A)
    (ap₂ {C = List ℕ × List ℕ} (λ x y. (x, y)) (no_more B) (no_more C)))
    ∙ nodes_back t.next t.nodes [] [] [] f.ok)))
  where
    no_more : (xs : List ℕ) → xs ++ [] ≡ xs
    no_more [] = refl
    no_more (x ∷ xs) = ap (λ ys. x ∷ ys) (no_more xs)

start_is : (l : Limits) (live : Bool) → area_start layout l live ≡ live_area l live
unfolding area_start
start_is l false = omega arith
start_is l true = refl

root_same : (r : Root) (v : Bool) (t : Tree) (js : List Item) → v ≡ r.live → t ≡ r.base → js ≡ r.journal →
    ◌≡◌ {A = Root} (record { live = v; base = t; journal = js }) r
root_same r v t js p q s = rw (p, q, s)

area_small : (l : Limits) → Sized l → suc l.room + (checkpoint_size l + checkpoint_size l) ≤ blocks_for l
area_small l sz = let a = sz.2 in let b = sz.0 in omega arith

checkpoint_short : (l : Limits) (t : Tree) → Sized l → Fits l t → length (checkpoint_blocks t) ≤ checkpoint_size l
checkpoint_short l t sz f =
    let a = length-checkpoint t in
    let b = f.few in
    let c = f.named_few in
    let d = cells_few l t f in
    omega arith

root_back : (l : Limits) (bs : List Block) (r : Root) → Sized l → length bs ≡ blocks_for l → Fits l r.base →
    leb (length (journal_words r.journal)) 496 ≡ true → ok_journal r.journal ≡ true →
    get_or bs 0 empty_block ≡ super_block l r.live (counts_of r.base) r.journal →
    ((j : ℕ) → j < length (checkpoint_blocks r.base) → get_or bs (area_start layout l r.live + j) empty_block ≡ get_or
    (checkpoint_blocks r.base) j empty_block) →
    root_from l bs ≡ r
root_back l bs r sz len ft jf ok top area =
    let W : List ℕ = super_words l r.live (counts_of r.base) r.journal in
    let super : chunks 512 0 (get_or bs 0 empty_block) ≡ pad 512 W =
    ap (chunks 512 0) top ∙ block_back W (small_words W (small_super l r.live r.base r.journal sz ft jf ok))
    (super_long l r.live (counts_of r.base) r.journal jf) in
    let v : live_from (chunks 512 0 (get_or bs 0 empty_block)) ≡ r.live = ap live_from super
    ∙ live_back l r.live (counts_of r.base) r.journal in
    let X : List Block = checkpoint_blocks r.base in
    let k : ℕ = live_area l r.live in
    let fits : k + length X ≤ length bs = ends l r.live (length X) (length bs) (checkpoint_short l r.base sz ft) len
    (area_small l sz) in
    let d : drop k bs ≡ X ++ drop (k + length X) bs =
    from_place bs X k fits (λ j h. ap (λ (n : ℕ). get_or bs (n + j) empty_block) (sym (start_is l r.live)) ∙ area j h) in
    root_same r _ _ _ v
    (ap₂ (λ (c : Counts) (x : List Block). base_from c x) (ap counts_from super) (ap (λ (b : Bool). drop (live_area l b) bs) v ∙ d)
    ∙ base_back l r.base (drop (k + length X) bs) sz ft)
    (ap super_journal super ∙ journal_back l r.live (counts_of r.base) r.journal ok)
  where
    ends : (l : Limits) (live : Bool) (n m : ℕ) → n ≤ checkpoint_size l → m ≡ blocks_for l →
        suc l.room + (checkpoint_size l + checkpoint_size l) ≤ blocks_for l → live_area l live + n ≤ m
    ends l true n m a b c = omega arith
    ends l false n m a b c = omega arith

-- ALL LAWS
pub layout_laws : Laws layout Fits
layout_laws = record {
  dec_enc = λ l st sz f o lh lf jf ok. state_back l st sz f lh lf jf ok;
  loads = root_back;
  fits_new = fits_new;
  fits_next = fits_next;
  ok_next = ok_next;
  fits_none = λ l. refl;
  area_short = checkpoint_short;
  areas_fit = area_small;
  enc_small = λ l st t sz fb eb f o lh lf jf ok. (
    let a = long_mem l st sz f lh lf jf ok in let b = sz.1 in let c = sz.3 in omega arith,
    below_words (memory l st) (small_mem l st sz f lh lf jf ok t fb eb o),
  );
  super_good = λ l r t js sz f jf ok. block_good (super_words l r (counts_of t) js) (super_long l r (counts_of t) js jf);
  area_good = λ l t sz f. append_good (table_blocks (node_words t.nodes)) (table_blocks (entry_words t.nodes) ++
      table_blocks (cell_words t.nodes))
      (blocks_good (blocks_count (length (node_words t.nodes))) (node_words t.nodes))
      (append_good (table_blocks (entry_words t.nodes)) (table_blocks (cell_words t.nodes))
      (blocks_good (blocks_count (length (entry_words t.nodes))) (entry_words t.nodes))
      (blocks_good (blocks_count (length (cell_words t.nodes))) (cell_words t.nodes)));
}

-- AS THEY ARE ASKED FOR
pub areas_apart : AreasApart
unfolding area_start
areas_apart l sz = let a = area_small l sz in (omega arith, omega arith, omega arith)

pub checkpoints_fit : CheckpointsFit
checkpoints_fit l t sz f = let a = length-checkpoint t in let b = checkpoint_short l t sz f in (a, omega arith)

pub memory_fits : MemoryFits
memory_fits l sz = (
  let b = sz.1 in let c = sz.3 in omega arith,
  λ st c. let a = long_mem l st sz c.tree_fits c.held_long c.fresh_long c.journal_fits c.journal_ok in omega arith,
)

pub decodes : Decodes
decodes l st sz c = state_back l st sz c.tree_fits c.held_long c.fresh_long c.journal_fits c.journal_ok

pub loads : Loads
loads = root_back
