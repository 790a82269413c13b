-- All words of memory, and the words of each table.
use Rattle.std.proofs.Common.{◌≡◌, ℕ, ◌*◌, List, ◌++◌, length, take, drop, sym, refl, ap, ◌∙◌, arith, take_at, drop_at}
use Rattle.blocks.specs.Words.{pad}
use Rattle.blocks.proofs.Words.{length-pad}
use Rattle.blocks.proofs.Bits.{length-bits_words}
use Rattle.model.specs.Refusals.{Limits}
use Rattle.machine.specs.State.{State, own}
use Rattle.machine.specs.Tables.{node_words, sum_words, entry_words, cell_words}
use Rattle.machine.specs.Fits.{Fits, Carries}
use Rattle.machine.specs.Layout.{bitmap_size, super_words, layout}
use Rattle.machine.proofs.Fits.{cells_few}
use Rattle.machine.proofs.Tables.{length-nodes, length-entries, length-sums, cells_are}
use Rattle.std.proofs.lemmas.Bool.{leb-true}
use Rattle.memory.specs.Encodes.{WholeSplits, WholeJoins, LengthsAre}

pub whole_joins : WholeJoins
whole_joins l st t s e = cc

-- each table of a state that can be is as long as the layout says
module _ (l : Limits) (st : State) (c : Carries layout.fits l st) where
  f : Fits l st.tree
  f = c.tree_fits

  long_super : length (pad 512 (super_words l st.live st.base st.journal)) ≡ 512
  long_super = length-pad 512 (super_words l st.live st.base st.journal) (omega (arith, leb-true _ _ c.journal_fits))

  long_nodes : length (pad (4 * l.nodes_most) (node_words st.tree.nodes)) ≡ 4 * l.nodes_most
  long_nodes = length-pad _ _ (omega (arith, length-nodes st.tree.nodes, f.few))

  long_sums : length (pad (2 * l.nodes_most) (sum_words 0 0 st.tree.nodes)) ≡ 2 * l.nodes_most
  long_sums = length-pad _ _ (omega (arith, length-sums 0 0 st.tree.nodes, f.few))

  long_entries : length (pad (16 * l.nodes_most) (entry_words st.tree.nodes)) ≡ 16 * l.nodes_most
  long_entries = length-pad _ _ (omega (arith, length-entries st.tree.nodes, f.few, f.named_few))

  long_cells : length (pad l.room (cell_words st.tree.nodes)) ≡ l.room
  long_cells = length-pad _ _ (omega (arith, ap length (cells_are st.tree.nodes), cells_few l st.tree f))

pub lengths_are : LengthsAre
lengths_are l st t s r =
    let e = r.encodes in
    let c = r.carries in
    record {
      head = ap length e.head;
      superblock = ap length e.superblock ∙ long_super l st c;
      nodes = ap length e.nodes ∙ long_nodes l st c;
      sums = ap length e.sums ∙ long_sums l st c;
      entries = ap length e.entries ∙ long_entries l st c;
      cells = ap length e.cells ∙ long_cells l st c;
      held = ap length e.held ∙ length-bits_words (bitmap_size l) st.held;
      fresh = ap length e.fresh ∙ length-bits_words (bitmap_size l) st.fresh;
      own = ap length e.own ∙ length-bits_words (bitmap_size l) (own l st.tree);
    }

-- two lists with fronts of one length
fronts : (a b x y : List ℕ) (n : ℕ) → length a ≡ n → length x ≡ n → a ++ b ≡ x ++ y → (a ≡ x) × (b ≡ y)
fronts a b x y n p q e = (
  sym (take_at a b n p) ∙ (ap (take n) e ∙ take_at x y n q),
  sym (drop_at a b n p) ∙ (ap (drop n) e ∙ drop_at x y n q),
)

pub whole_splits : WholeSplits
whole_splits l st t s c n e =
    let (head, r1) = fronts _ _ _ _ 16 n.head refl e in
    let (superblock, r2) = fronts _ _ _ _ _ n.superblock (long_super l st c) r1 in
    let (nodes, r3) = fronts _ _ _ _ _ n.nodes (long_nodes l st c) r2 in
    let (sums, r4) = fronts _ _ _ _ _ n.sums (long_sums l st c) r3 in
    let (entries, r5) = fronts _ _ _ _ _ n.entries (long_entries l st c) r4 in
    let (cells, r6) = fronts _ _ _ _ _ n.cells (long_cells l st c) r5 in
    let (held, r7) = fronts _ _ _ _ _ n.held (length-bits_words (bitmap_size l) st.held) r6 in
    let (fresh, own) = fronts _ _ _ _ _ n.fresh (length-bits_words (bitmap_size l) st.fresh) r7 in
    record {
      head = head;
      superblock = superblock;
      nodes = nodes;
      sums = sums;
      entries = entries;
      cells = cells;
      held = held;
      fresh = fresh;
      own = own;
    }
