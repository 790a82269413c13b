use Rattle.std.proofs.Common.{◌≡◌, None, Some, Err, refl, ◌∙◌, arith}
use Rattle.calls.specs.declared.Refusal.TheVariants.{NoFile}
use Rattle.tables.proofs.Bodies.{file_at}
use Rattle.rows.specs.Places.{place_in}
use Rattle.lookup.proofs.Places.{read}
use Rattle.check_files.proofs.Reasons.{read_no_file, read_past, read_done}
use Rattle.check_files.proofs.files.block_at.Goals as goal

pub returns-in_err-place : goal.returns-in_err-place
returns-in_err-place c l t older held h =
    let r : c.from_residual.result ≡ Err NoFile = grind arith in
    let n : c.file.result ≡ None = grind arith in
    rw r (read_no_file l t older held c.args.id c.args.at (rw n at c.file.ensures.found l t h))

pub returns-then-at-place : goal.returns-then-at-place
returns-then-at-place c l t older held h =
    let n : c.file.result ≡ Some c.in_ok-place.place = grind arith in
    let f = rw n at (c.file.ensures.found l t h) in
    let a = file_at f.0 f.1 in
    read_past l t older held c.args.id c.args.at a.file (omega (arith, a.many))

pub returns : goal.returns
returns c l t older held h =
    let n : c.file.result ≡ Some c.in_ok-place.place = grind arith in
    let f = rw n at (c.file.ensures.found l t h) in
    let a = file_at f.0 f.1 in (
      read_done l t older held c.args.id c.args.at a.file (omega (arith, a.many)),
      record {
        id = c.args.id;
        at = c.args.at;
        is = refl;
        below = omega (arith, a.many);
        block = c.block_of.ensures ∙ (read h).cell c.args.id (place_in c.in_ok-place.place) c.args.at f.0 f.1
            (omega arith);
      },
    )
