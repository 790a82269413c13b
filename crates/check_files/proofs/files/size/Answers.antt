use Rattle.std.proofs.Common.{◌≡◌, None, Some, Err, refl, arith}
use Rattle.calls.specs.declared.Refusal.TheVariants.{NoFile}
use Rattle.tables.proofs.Bodies.{file_at}
use Rattle.check_files.proofs.Reasons.{size_no_file, size_done}
use Rattle.check_files.proofs.files.size.Goals as goal

pub returns-in_err-place : goal.returns-in_err-place
returns-in_err-place c l t older held h =
    let r : c.from_residual.result ≡ Err NoFile = grind arith in
    let n : c.file.result ≡ None = grind arith in
    rw r (size_no_file l t older held c.args.id (rw n at c.file.ensures.found l t h))

pub returns : goal.returns
returns c l t older held h =
    let n : c.file.result ≡ Some c.in_ok-place.place = grind arith in
    let f = rw n at (c.file.ensures.found l t h) in
    let a = file_at f.0 f.1 in
    (size_done l t older held c.args.id a.file, record { id = c.args.id; is = refl; many = a.many })
