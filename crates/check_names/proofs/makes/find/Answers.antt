use Rattle.std.proofs.Common.{◌≡◌, None, Some, Err, refl, arith}
use Rattle.calls.specs.declared.Refusal.TheVariants.{NoDirectory, NoEntry}
use Rattle.tables.proofs.Bodies.{dir_at}
use Rattle.check_names.proofs.Reasons.{find_no_dir, find_no_name, find_done}
use Rattle.check_names.proofs.makes.find.Goals as goal

pub returns-in_err-place : goal.returns-in_err-place
returns-in_err-place c l t older held h =
    let r : c.from_residual.result ≡ Err NoDirectory = grind arith in
    let n : c.directory.result ≡ None = grind arith in
    rw r (find_no_dir l t older held c.args.dir c.args.name.now (rw n at c.directory.ensures.found l t h))

pub returns-in_err-entry : goal.returns-in_err-entry
returns-in_err-entry c l t older held h =
    let r : c.from_residual-in_err-entry.result ≡ Err NoEntry = grind arith in
    let n : c.directory.result ≡ Some c.in_ok-place.place = grind arith in
    let m : c.name_in.result ≡ None = grind arith in
    let f = rw n at (c.directory.ensures.found l t h) in
    rw r (find_no_name l t older held c.args.dir c.args.name.now (dir_at f.0 f.1).dir (rw m at (c.name_in.ensures l t c.args.dir h f.0 f.1)))

pub returns : goal.returns
returns c l t older held h =
    let n : c.directory.result ≡ Some c.in_ok-place.place = grind arith in
    let m : c.name_in.result ≡ Some c.in_ok-entry.entry = grind arith in
    let f = rw n at (c.directory.ensures.found l t h) in
    let g = rw m at (c.name_in.ensures l t c.args.dir h f.0 f.1) in (
      find_done l t older held c.args.dir c.args.name.now c.in_ok-entry.entry.id (dir_at f.0 f.1).dir g.1,
      record { dir = c.args.dir; name = c.args.name.now; is = refl; found = g.1 },
    )
