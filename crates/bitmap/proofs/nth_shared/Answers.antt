-- A turn passes the bits of one pair of words, or finds the bit among them.
use Rattle.std.proofs.Common.{rules, ◌≡◌, ◌+◌, ◌*◌, ◌≤◌, length, sym, ap, ◌∙◌, arith, inl, inr, length-drop}
use Rattle.std.specs.List.{slice_get}
use Rattle.std.specs.Option.{option_map}
use Rattle.bitmap.proofs.Shared.{nth_here, nth_later, shared_end}
use Rattle.bitmap.proofs.Lists.{drop_step}
use Rattle.bitmap.proofs.nth_shared.Goals as goal

pub returns-in-None-checked_sub : goal.returns-in-None-checked_sub
returns-in-None-checked_sub c =
    let st = c.in-Some.ensures.steps in
    let inv = c.loop-i.invariant in
    let n = c.loop-i.i-iterator.count in
    let a = drop_step c.args.a.now c.next.new.self.iter.a.rest.now n c.in-Some.x.now (sym inv.1 ∙ st.0.0) in
    let b = drop_step c.args.b.now c.next.new.self.iter.b.rest.now n c.in-Some.y.now (sym inv.2 ∙ st.0.1) in
    let e : c.map.result ≡ option_map (λ p. 64 * c.in-Some.i + p) c.nth_set.result = search rules in
    e
    ∙ (ap (λ i. option_map (λ p. 64 * i + p) c.nth_set.result) st.1
    ∙ (ap (option_map (λ p. 64 * n + p)) c.nth_set.ensures.place
    ∙ (nth_here c.args.a.now c.args.b.now n c.in-Some.x.now c.in-Some.y.now a.0 c.requires.alike a.1 b.1 (omega arith) (omega arith) c.loop-i.left (omega (arith, c.in-None-checked_sub.ensures))
    ∙ inv.0)))

pub loop-i-preserved : goal.loop-i-preserved
loop-i-preserved c =
    let st = c.in-Some.ensures.steps in
    let inv = c.loop-i.invariant in
    let n = c.loop-i.i-iterator.count in
    let a = drop_step c.args.a.now c.next.new.self.iter.a.rest.now n c.in-Some.x.now (sym inv.1 ∙ st.0.0) in
    let b = drop_step c.args.b.now c.next.new.self.iter.b.rest.now n c.in-Some.y.now (sym inv.2 ∙ st.0.1) in
    let sub = c.in-Some-checked_sub.ensures in
    rw (st.2, sub.1) (
      nth_later c.args.a.now c.args.b.now n c.in-Some.x.now c.in-Some.y.now a.0 c.requires.alike a.1 b.1 (omega arith) (omega arith) c.loop-i.left sub.0
          ∙ inv.0,
      a.2,
      b.2,
    )

pub returns : goal.returns
returns c =
    let st = c.in-None.ensures.steps in
    let inv = c.loop-i.invariant in
    let n = c.loop-i.i-iterator.count in
    let past : length c.args.a.now ≤ n = elim st.0 [
      | inl w ↦ omega (arith, ap length inv.1, length-drop n c.args.a.now, w.1.0)
      | inr w ↦ omega (arith, ap length inv.2, length-drop n c.args.b.now, w.1.0, c.requires.alike)
    ] in
    sym (ap (λ t. slice_get t c.loop-i.left) (shared_end c.args.a.now c.args.b.now n past)) ∙ inv.0
