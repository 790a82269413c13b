use Rattle.std.proofs.Common.{◌≡◌, None, Some, Err, refl, arith}
use Rattle.calls.specs.declared.Refusal.TheVariants.{NoDirectory}
use Rattle.tables.proofs.Bodies.{dir_at}
use Rattle.rows.specs.Places.{place_in}
use Rattle.lookup.proofs.Places.{read}
use Rattle.lookup.proofs.Entries.{entries_inside, short_at}
use Rattle.check_files.proofs.Reasons.{list_no_dir, list_past, list_done}
use Rattle.check_files.proofs.files.list.Goals as goal

pub returns-in_err-place : goal.returns-in_err-place
returns-in_err-place c l t older held h =
    let r : c.from_residual.result ≡ Err NoDirectory = grind arith in
    let n : c.directory.result ≡ None = grind arith in
    rw r (list_no_dir l t older held c.args.dir c.args.index (rw n at c.directory.ensures.found l t h))

pub returns-then-index-place : goal.returns-then-index-place
returns-then-index-place c l t older held h =
    let n : c.directory.result ≡ Some c.in_ok-place.place = grind arith in
    let f = rw n at (c.directory.ensures.found l t h) in
    let a = dir_at f.0 f.1 in
    list_past l t older held c.args.dir c.args.index a.dir (omega (arith, a.many))

pub returns : goal.returns
returns c l t older held h =
    let n : c.directory.result ≡ Some c.in_ok-place.place = grind arith in
    let f = rw n at (c.directory.ensures.found l t h) in
    let a = dir_at f.0 f.1 in (
      list_done l t older held c.args.dir c.args.index a.dir (omega (arith, a.many)),
      record {
        dir = c.args.dir;
        index = c.args.index;
        is = refl;
        inside = omega (arith, entries_inside h f.0 f.1);
        short = short_at h f.0 f.1 c.args.index (omega arith);
        entry = (read h).entry c.args.dir (place_in c.in_ok-place.place) c.args.index f.0 h.fits.ok
            (omega (arith, a.many));
      },
    )
