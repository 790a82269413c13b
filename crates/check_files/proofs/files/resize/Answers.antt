use Rattle.std.proofs.Common.{◌≡◌, ◌+◌, ◌-◌, ◌≤◌, None, Some, Err, sym, refl, ap, arith}
use Rattle.std.proofs.lemmas.Bool.{ltb-true, leb-true}
use Rattle.calls.specs.declared.Refusal.TheVariants.{NoFile}
use Rattle.model.specs.Calls.{resize}
use Rattle.tables.proofs.Bodies.{file_at}
use Rattle.steps.specs.Stages.{limits_of}
use Rattle.check_files.proofs.Reasons.{resize_no_file, resize_same, resize_full, resize_late, resize_done}
use Rattle.check_files.proofs.files.resize.Goals as goal

pub returns-in_err-file : goal.returns-in_err-file
returns-in_err-file c s t h =
    let l = limits_of s c.args.state.now.room.limits in
    let r : c.from_residual.result ≡ Err NoFile = grind arith in
    let n : c.file.result ≡ None = grind arith in
    rw r (resize_no_file l t c.args.state.now.room.older c.args.state.now.room.held c.args.id c.args.places
    (rw n at c.file.ensures.found l t h))

pub returns-then-places-count : goal.returns-then-places-count
returns-then-places-count c s t h =
    let l = limits_of s c.args.state.now.room.limits in
    let n : c.file.result ≡ Some c.in_ok-file.file = grind arith in
    let f = rw n at (c.file.ensures.found l t h) in
    let a = file_at f.0 f.1 in (
      resize_same l t c.args.state.now.room.older c.args.state.now.room.held c.args.id c.args.places a.file
          (omega (arith, a.many)),
      record { id = c.args.id; many = c.args.places; is = refl; same = omega (arith, a.many) },
    )

pub returns-then-not-cells_fit : goal.returns-then-not-cells_fit
returns-then-not-cells_fit c s t h =
    let l = limits_of s c.args.state.now.room.limits in
    let n : c.file.result ≡ Some c.in_ok-file.file = grind arith in
    let f = rw n at (c.file.ensures.found l t h) in
    let a = file_at f.0 f.1 in
    resize_full l t c.args.state.now.room.older c.args.state.now.room.held c.args.id c.args.places a.file
    c.in_ok-file.file.count a.many c.if-places-count.false (sym c.if-not-cells_fit.ensures)

pub returns-then-not-may_change : goal.returns-then-not-may_change
returns-then-not-may_change c s t h =
    let l = limits_of s c.args.state.now.room.limits in
    let n : c.file.result ≡ Some c.in_ok-file.file = grind arith in
    let f = rw n at (c.file.ensures.found l t h) in
    let a = file_at f.0 f.1 in
    resize_late l t c.args.state.now.room.older c.args.state.now.room.held c.args.id c.args.places a.file
    c.in_ok-file.file.count a.many c.if-places-count.false (sym c.if-not-cells_fit.ensures)
    (sym c.if-not-may_change.ensures)

pub returns-then-places-count-2 : goal.returns-then-places-count-2
returns-then-places-count-2 c s t h =
    let l = limits_of s c.args.state.now.room.limits in
    let n : c.file.result ≡ Some c.in_ok-file.file = grind arith in
    let f = rw n at (c.file.ensures.found l t h) in
    let a = file_at f.0 f.1 in
    let k = c.in_ok-file.file.count in
    let m = c.args.places in
    let held = c.args.state.now.room.held in
    let r = sym c.if-not-cells_fit.ensures in
    let o = sym c.if-not-may_change.ensures in
    let z : m ≡ k + (m - k) = omega arith in
    let room : held + (m - k) ≤ l.room = leb-true (held + (m - k)) l.room r in (
      resize_done l t c.args.state.now.room.older held c.args.id m a.file k a.many c.if-places-count.false r o,
      record {
        id = c.args.id;
        is = ap (resize c.args.id) z;
        in_file = record { stands = f.0; kind = f.1 };
        more = omega arith;
        cells_room = room;
        older_room = ltb-true _ _ o;
      },
    )

pub returns : goal.returns
returns c s t h =
    let l = limits_of s c.args.state.now.room.limits in
    let n : c.file.result ≡ Some c.in_ok-file.file = grind arith in
    let f = rw n at (c.file.ensures.found l t h) in
    let a = file_at f.0 f.1 in
    let k = c.in_ok-file.file.count in
    let m = c.args.places in
    let r = sym c.if-not-cells_fit.ensures in
    let o = sym c.if-not-may_change.ensures in
    let ne : m ≡ k → ⊥ = c.if-places-count.false in (
      resize_done l t c.args.state.now.room.older c.args.state.now.room.held c.args.id m a.file k a.many ne r o,
      record {
        id = c.args.id;
        is = refl;
        in_file = record { stands = f.0; kind = f.1 };
        fewer = omega arith;
        older_room = ltb-true _ _ o;
      },
    )
