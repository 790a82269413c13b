use Rattle.std.proofs.Common.{◌≡◌, None, Some, Err, refl, arith}
use Rattle.calls.specs.declared.Refusal.TheVariants.{NoFile}
use Rattle.tables.proofs.Bodies.{file_at}
use Rattle.check_files.proofs.Reasons.{sync_no_file, sync_done}
use Rattle.check_files.proofs.files.sync_file.Goals as goal

pub returns-in_err-ok_or : goal.returns-in_err-ok_or
returns-in_err-ok_or c l t older held h =
    let r : c.from_residual.result ≡ Err NoFile = grind arith in
    let n : c.file.result ≡ None = grind arith in
    rw r (sync_no_file l t older held c.args.id (rw n at c.file.ensures.found l t h))

pub returns : goal.returns
returns c l t older held h =
    let n : c.file.result ≡ Some c.in_ok-ok_or.field-0 = grind arith in
    let f = rw n at (c.file.ensures.found l t h) in
    let a = file_at f.0 f.1 in
    (sync_done l t older held c.args.id a.file, record { is = refl; file = a.file })
