use Rattle.std.proofs.Common.{◌≡◌, Err, ◌∙◌, arith}
use Rattle.check_files.proofs.Reasons.{write_same, write_place}
use Rattle.check_files.proofs.files.write.Goals as goal

pub returns-in_err-to : goal.returns-in_err-to
returns-in_err-to c l t older held h =
    let r : c.from_residual.result ≡ Err c.in_err-to.field-0.0 = grind arith in
    rw r (write_same l t older held c.args.id c.args.at c.args.block.now ∙ c.in_err-to.ensures l t older held h)

pub returns : goal.returns
returns c l t older held h =
    let f = c.in_ok-to.ensures l t older held h in (
      write_same l t older held c.args.id c.args.at c.args.block.now ∙ f.0,
      write_place t c.args.id c.args.at c.in_ok-to.to c.args.block.now f.1,
    )
