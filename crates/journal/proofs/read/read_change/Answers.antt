-- A change with one name: none is there, or the kind says which it is.
use Rattle.std.proofs.Common.{sym, ap, ◌∙◌, arith}
use Rattle.std.specs.Option.{option_map}
use Rattle.journal.specs.Items.{change_in}
use Rattle.journal.proofs.ItemsRead.{no_name, one_name}
use Rattle.journal.proofs.read.read_change.Goals as goal

pub returns-in_err-dir-in_default : goal.returns-in_err-dir-in_default
returns-in_err-dir-in_default c =
    rw c.from_residual-in_err-dir-in_default.ensures
    record {
      change = λ b. no_name c.args.kind b c.args.fields.now c.in_default.not-Rename c.in_default.not-Resize c.in_err-dir-in_default.ensures;
      size = tt;
    }

pub returns-in_ok-change-in_default : goal.returns-in_ok-change-in_default
returns-in_ok-change-in_default c =
    let f = c.in_ok-dir-in_default.ensures in
    record {
      change = λ b. one_name b c.args.fields.now c.in_ok-dir-in_default.dir _ c.in_ok-dir-in_default.size f.0 f.1 f.2 _ c.args.kind
          (ap (option_map change_in) (sym c.in_ok-change-in_default.was) ∙ c.named.ensures);
      size = (omega (arith, f.2), f.3);
    }
