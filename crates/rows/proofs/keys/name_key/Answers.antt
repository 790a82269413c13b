-- A turn puts in the word of the next eight bytes, and behind the last there are zeros.
use Rattle.std.proofs.Common.{rules, ◌≡◌, ◌+◌, ◌*◌, ◌<◌, length, refl, sym, ap, ◌∙◌, arith, length-drop}
use Rattle.blocks.specs.Words.{le}
use Rattle.rows.proofs.NameWords.{key_more, key_done, next_bytes}
use Rattle.rows.proofs.keys.name_key.Goals as goal

pub loop-k-preserved : goal.loop-k-preserved
loop-k-preserved c =
    let st = c.in-Some.ensures.steps in
    let i = c.loop-k.invariant in
    let n = c.loop-k.k-iterator.count in
    let lt : n < 8 = omega (arith, ap length i.1, length-drop (8 * n) c.args.name.now, st.0.1.2, c.requires) in
    let cut =
    next_bytes c.args.name.now c.in-Some.bytes.now c.next.new.self.iter.rest.now n (sym i.1 ∙ st.0.1.0)
    (st.0.1.1 ∙ rw (i.1, i.2) refl) in
    let w = c.word.ensures ∙ ap le cut.0 in
    let k : c.in-Some.k ≡ n = st.1 in
    let m : c.next.new.self.count ≡ n + 1 = st.2 in
    rw (m, k) (key_more c.args.name.now c.loop-k.key n _ lt i.0 (search (rules, w)), cut.1, st.0.0 ∙ i.2, omega arith)

pub returns : goal.returns
returns c =
    let st = c.in-None.ensures.steps in
    let n = c.loop-k.k-iterator.count in
    c.loop-k.invariant.0
    ∙ key_done c.args.name.now n c.loop-k.invariant.3
    (omega (arith, ap length c.loop-k.invariant.1, length-drop (8 * n) c.args.name.now, st.0.1.0))
