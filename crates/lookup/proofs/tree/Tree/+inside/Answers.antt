use Rattle.std.proofs.Common.{◌+◌, ◌-◌, sym, ◌∙◌, arith}
use Rattle.model.specs.Tree.{body_of, entries}
use Rattle.tables.proofs.Bodies.{dir_at}
use Rattle.rows.specs.Places.{place_in}
use Rattle.lookup.proofs.Places.{read}
use Rattle.lookup.proofs.Down.{holds_itself, holds_start, holds_none, any_here, any_next, any_stop, any_end, no_entries}
use Rattle.lookup.proofs.tree.Tree.+inside.Goals as goal

pub returns-then-outer-inner : goal.returns-then-outer-inner
returns-then-outer-inner t c l u h =
    holds_itself c.args.steps u c.args.outer c.args.inner c.if-outer-inner.true

pub returns-in_default : goal.returns-in_default
returns-in_default t c l u h =
    holds_none c.args.steps u c.args.outer c.args.inner c.if-outer-inner.false
    (no_entries (body_of u c.args.outer) (c.in_default.ensures.found l u h))

pub loop-k-init : goal.loop-k-init
loop-k-init t c l u h = holds_start c.args.steps u c.args.outer c.args.inner c.if-outer-inner.false

pub returns-then-steps-k : goal.returns-then-steps-k
returns-then-steps-k t c l u h =
    sym (any_stop u (entries (body_of u c.args.outer)) c.loop-k.k c.args.inner (c.args.steps - (c.loop-k.k + 1))
    (omega arith))
    ∙ c.loop-k.invariant l u h

pub returns-then-inside : goal.returns-then-inside
returns-then-inside t c l u h =
    let k = c.loop-k.k in
    let s = c.args.steps in
    let f = c.in-Some.ensures.found l u h in
    let m = (dir_at f.0 f.1).many in
    let id = c.entry_id-id.ensures ∙ (read h).id c.args.outer (place_in c.in-Some.place) k f.0 (omega arith) in
    any_here u (entries (body_of u c.args.outer)) k c.args.inner (s - (k + 1)) (s - k - 2) c.entry_id-id.result
    (omega arith) (omega arith) id (c.if-inside.ensures l u h)
    ∙ c.loop-k.invariant l u h

pub loop-k-preserved : goal.loop-k-preserved
loop-k-preserved t c l u h =
    let k = c.loop-k.k in
    let s = c.args.steps in
    let f = c.in-Some.ensures.found l u h in
    let m = (dir_at f.0 f.1).many in
    let id = c.entry_id-id.ensures ∙ (read h).id c.args.outer (place_in c.in-Some.place) k f.0 (omega arith) in
    any_next u (entries (body_of u c.args.outer)) k c.args.inner (s - (k + 1)) (s - k - 2) (s - (k + 1 + 1)) c.entry_id-id.result
    (omega arith) (omega arith) (omega arith) id (c.if-inside.ensures l u h)
    ∙ c.loop-k.invariant l u h

pub returns : goal.returns
returns t c l u h =
    let f = c.in-Some.ensures.found l u h in
    let m = (dir_at f.0 f.1).many in
    sym (any_end u (entries (body_of u c.args.outer)) c.loop-k.k c.args.inner (c.args.steps - (c.loop-k.k + 1))
    (omega arith))
    ∙ c.loop-k.invariant l u h
