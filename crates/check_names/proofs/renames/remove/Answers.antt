use Rattle.std.proofs.Common.{◌≡◌, None, Some, Err, sym, refl, arith}
use Rattle.std.proofs.lemmas.Bool.{ltb-true}
use Rattle.calls.specs.declared.Refusal.TheVariants.{NoDirectory, NoEntry}
use Rattle.model.specs.Tree.{body_of, entries}
use Rattle.tables.proofs.Bodies.{dir_at}
use Rattle.steps.specs.Stages.{limits_of}
use Rattle.lookup.proofs.Alike.{none_some}
use Rattle.check_names.proofs.Reasons.{remove_no_dir, remove_no_name, remove_full, remove_late, remove_done}
use Rattle.check_names.proofs.renames.remove.Goals as goal

pub returns-in_err-place : goal.returns-in_err-place
returns-in_err-place c held s t h =
    let l = limits_of s c.args.state.now.room.limits in
    let r : c.from_residual.result ≡ Err NoDirectory = grind arith in
    let n : c.directory.result ≡ None = grind arith in
    rw r (remove_no_dir l t c.args.state.now.room.older held c.args.dir c.args.name.now
    (rw n at c.directory.ensures.found l t h))

pub returns-in_err-entry : goal.returns-in_err-entry
returns-in_err-entry c held s t h =
    let l = limits_of s c.args.state.now.room.limits in
    let r : c.from_residual-in_err-entry.result ≡ Err NoEntry = grind arith in
    let n : c.directory.result ≡ Some c.in_ok-place.place = grind arith in
    let m : c.name_in.result ≡ None = grind arith in
    let f = rw n at (c.directory.ensures.found l t h) in
    rw r (remove_no_name l t c.args.state.now.room.older held c.args.dir c.args.name.now (dir_at f.0 f.1).dir
    (rw m at (c.name_in.ensures l t c.args.dir h f.0 f.1)))

pub returns-then-has_entries : goal.returns-then-has_entries
returns-then-has_entries c held s t h =
    let l = limits_of s c.args.state.now.room.limits in
    let n : c.directory.result ≡ Some c.in_ok-place.place = grind arith in
    let m : c.name_in.result ≡ Some c.in_ok-entry.entry = grind arith in
    let f = rw n at (c.directory.ensures.found l t h) in
    let g = rw m at (c.name_in.ensures l t c.args.dir h f.0 f.1) in
    remove_full l t c.args.state.now.room.older held c.args.dir c.args.name.now (dir_at f.0 f.1).dir
    c.in_ok-entry.entry.id g.1 (sym (c.if-has_entries.ensures l t h))

pub returns-then-not-may_change : goal.returns-then-not-may_change
returns-then-not-may_change c held s t h =
    let l = limits_of s c.args.state.now.room.limits in
    let n : c.directory.result ≡ Some c.in_ok-place.place = grind arith in
    let m : c.name_in.result ≡ Some c.in_ok-entry.entry = grind arith in
    let f = rw n at (c.directory.ensures.found l t h) in
    let g = rw m at (c.name_in.ensures l t c.args.dir h f.0 f.1) in
    remove_late l t c.args.state.now.room.older held c.args.dir c.args.name.now (dir_at f.0 f.1).dir
    c.in_ok-entry.entry.id g.1 (sym (c.if-has_entries.ensures l t h)) (sym c.if-not-may_change.ensures)

pub returns : goal.returns
returns c held s t h =
    let l = limits_of s c.args.state.now.room.limits in
    let n : c.directory.result ≡ Some c.in_ok-place.place = grind arith in
    let m : c.name_in.result ≡ Some c.in_ok-entry.entry = grind arith in
    let f = rw n at (c.directory.ensures.found l t h) in
    let g = rw m at (c.name_in.ensures l t c.args.dir h f.0 f.1) in
    let o = sym c.if-not-may_change.ensures in
    let e = c.if-has_entries.ensures l t h in (
      remove_done l t c.args.state.now.room.older held c.args.dir c.args.name.now (dir_at f.0 f.1).dir
          c.in_ok-entry.entry.id g.1 (sym e) o,
      record {
        dir = c.args.dir;
        name = c.args.name.now;
        is = refl;
        in_dir = record { stands = f.0; kind = f.1 };
        entry = g.0;
        found = g.1;
        empty = none_some (entries (body_of t c.in_ok-entry.entry.id)) e;
        older_room = ltb-true _ _ o;
      },
    )
