use Rattle.std.proofs.Common.{◌≡◌, ◌<◌, ◌&&◌, true, ltb, length, None, Some, Err, sym, refl, ◌∙◌, arith}
use Rattle.std.proofs.lemmas.Bool.{ltb-true, and_parts}
use Rattle.calls.specs.declared.Refusal.TheVariants.{NoDirectory}
use Rattle.model.specs.Tree.{named}
use Rattle.tables.proofs.Bodies.{dir_at}
use Rattle.steps.specs.Stages.{limits_of}
use Rattle.lookup.proofs.Typed.{ok_typed}
use Rattle.check_names.proofs.Reasons.{make_either, make_no_dir, make_taken, make_full, make_late, make_done, room_same, taken_by, not_there}
use Rattle.check_names.proofs.makes.make.Goals as goal

pub returns-in_err-place : goal.returns-in_err-place
returns-in_err-place c held s t h =
    let l = limits_of s c.args.state.now.room.limits in
    let older = c.args.state.now.room.older in
    let name = c.args.name.now in
    let r : c.from_residual.result ≡ Err NoDirectory = grind arith in
    let n : c.directory.result ≡ None = grind arith in
    rw r (make_either l t older held c.args.kind c.args.dir name
    ∙ make_no_dir l t older held c.args.dir name (rw n at c.directory.ensures.found l t h))

pub returns-then-is_some : goal.returns-then-is_some
returns-then-is_some c held s t h =
    let l = limits_of s c.args.state.now.room.limits in
    let older = c.args.state.now.room.older in
    let name = c.args.name.now in
    let n : c.directory.result ≡ Some c.in_ok-place.place = grind arith in
    let f = rw n at (c.directory.ensures.found l t h) in
    let g = taken_by t c.args.dir name c.name_in.result (c.name_in.ensures l t c.args.dir h f.0 f.1) in
    make_either l t older held c.args.kind c.args.dir name
    ∙ make_taken l t older held c.args.dir name (dir_at f.0 f.1).dir (g ∙ sym c.if-is_some.ensures)

pub returns-then-not-has_room : goal.returns-then-not-has_room
returns-then-not-has_room c held s t h =
    let l = limits_of s c.args.state.now.room.limits in
    let older = c.args.state.now.room.older in
    let name = c.args.name.now in
    let n : c.directory.result ≡ Some c.in_ok-place.place = grind arith in
    let f = rw n at (c.directory.ensures.found l t h) in
    let g = taken_by t c.args.dir name c.name_in.result (c.name_in.ensures l t c.args.dir h f.0 f.1) in
    make_either l t older held c.args.kind c.args.dir name
    ∙ make_full l t older held c.args.dir name (dir_at f.0 f.1).dir (g ∙ sym c.if-is_some.ensures)
    (sym (room_same h) ∙ sym c.if-not-has_room.ensures)

pub returns-then-not-may_change : goal.returns-then-not-may_change
returns-then-not-may_change c held s t h =
    let l = limits_of s c.args.state.now.room.limits in
    let older = c.args.state.now.room.older in
    let name = c.args.name.now in
    let n : c.directory.result ≡ Some c.in_ok-place.place = grind arith in
    let f = rw n at (c.directory.ensures.found l t h) in
    let g = taken_by t c.args.dir name c.name_in.result (c.name_in.ensures l t c.args.dir h f.0 f.1) in
    make_either l t older held c.args.kind c.args.dir name
    ∙ make_late l t older held c.args.dir name (dir_at f.0 f.1).dir (g ∙ sym c.if-is_some.ensures)
    (sym (room_same h) ∙ sym c.if-not-has_room.ensures) (sym c.if-not-may_change.ensures)

pub returns : goal.returns
returns c held s t h =
    let l = limits_of s c.args.state.now.room.limits in
    let older = c.args.state.now.room.older in
    let name = c.args.name.now in
    let n : c.directory.result ≡ Some c.in_ok-place.place = grind arith in
    let f = rw n at (c.directory.ensures.found l t h) in
    let g = taken_by t c.args.dir name c.name_in.result (c.name_in.ensures l t c.args.dir h f.0 f.1)
    ∙ sym c.if-is_some.ensures in
    let r : (ltb (length t.nodes) l.nodes_most && ltb t.next 4294967295) ≡ true =
    sym (room_same h) ∙ sym c.if-not-has_room.ensures in
    let q = and_parts (ltb (length t.nodes) l.nodes_most) (ltb t.next 4294967295) r in
    let few : length t.nodes < l.nodes_most = ltb-true _ _ q.0 in
    let o = sym c.if-not-may_change.ensures in (
      make_either l t older held c.args.kind c.args.dir name
          ∙ make_done l t older held c.args.dir name (dir_at f.0 f.1).dir g r o,
      record {
        dir = c.args.dir;
        is = refl;
        in_dir = record { stands = f.0; kind = f.1 };
        ok = ok_typed name c.type_inv.name c.requires;
        new = not_there (named t c.args.dir name) g;
        nodes_room = omega (arith, few, h.holds.nodes_used);
        entries_room = omega (arith, few, h.holds.entries_used, h.fits.named_few);
        ids_room = ltb-true _ _ q.1;
        older_room = ltb-true _ _ o;
      },
    )
