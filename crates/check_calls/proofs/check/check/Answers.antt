use Rattle.std.proofs.Common.{◌≡◌, None, Some, Err, sym, ◌∙◌, arith}
use Rattle.calls.specs.declared.Refusal.TheVariants.{NoCall}
use Rattle.lookup.specs.Views.{words}
use Rattle.steps.specs.Stages.{limits_of}
use Rattle.check_calls.proofs.Asked.{no_call, cannot, out_of_range, tells_all}
use Rattle.check_calls.proofs.check.check.Goals as goal
use Rattle.check_calls.proofs.check.check.Goals.{then-not-can-via-then-not-can, then-not-can-via-else-not-can+then-not-in_range}

pub returns-in_err-kind : goal.returns-in_err-kind
returns-in_err-kind c t h =
    let room = c.args.state.now.room in
    let r : c.from_residual.result ≡ Err NoCall = grind arith in
    let n : c.kind.result ≡ None = grind arith in
    rw r (no_call (limits_of c.args.stage room.limits) (words c.args.state.now.tree.view) t room.older room.held c.args.call
    (sym c.kind.ensures ∙ n))

pub returns-then-not-can : goal.returns-then-not-can
returns-then-not-can c t h =
    let room = c.args.state.now.room in
    let l = limits_of c.args.stage room.limits in
    let T = words c.args.state.now.tree.view in
    let n : c.kind.result ≡ Some c.in_ok-kind.kind = grind arith in
    let e = sym c.kind.ensures ∙ n in
    elim c.then-not-can.branch [
      | then-not-can-via-then-not-can w ↦
          cannot l T t room.older room.held c.args.call c.in_ok-kind.kind e (sym w.if-not-can.ensures)
      | then-not-can-via-else-not-can+then-not-in_range w ↦
          out_of_range l T t room.older room.held c.args.call c.in_ok-kind.kind e (sym w.if-not-can.ensures)
          (sym w.if-not-in_range.ensures)
    ]

pub returns : goal.returns
returns c t h =
    let room = c.args.state.now.room in
    let n : c.kind.result ≡ Some c.in_ok-kind.kind = grind arith in
    tells_all (limits_of c.args.stage room.limits) (words c.args.state.now.tree.view) t room.older room.held c.args.call
    c.in_ok-kind.kind (sym c.kind.ensures ∙ n) (sym c.if-not-can.ensures) (sym c.if-not-in_range.ensures)
    c.ask.result (c.ask.ensures c.args.stage t h)
