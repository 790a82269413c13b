-- No first place, no second, or both.
use Rattle.std.proofs.Common.{◌≡◌, ℕ, ◌-◌, List, length, take, drop}
use Rattle.std.proofs.lemmas.List.{take_rest}
use Rattle.journal.proofs.ItemsRead.{rename_none, rename_half, rename_both}
use Rattle.journal.proofs.read.read_rename.Goals as goal

pub returns-in_err-dir-clause-change : goal.returns-in_err-dir-clause-change
returns-in_err-dir-clause-change c = λ b. rw c.from_residual.ensures (rename_none b c.args.fields.now c.in_err-dir.ensures)

pub returns-in_err-new_dir-clause-change : goal.returns-in_err-new_dir-clause-change
returns-in_err-new_dir-clause-change c = λ b.
    let fs : List ℕ = c.args.fields.now in
    let f = c.in_ok-dir.ensures in
    let rest : take (length fs - c.in_ok-dir.size) (drop c.in_ok-dir.size fs) ≡ drop c.in_ok-dir.size fs = take_rest fs c.in_ok-dir.size in
    rw c.from_residual-in_err-new_dir.ensures
    (rename_half b fs c.in_ok-dir.dir _ c.in_ok-dir.size f.0 f.1 f.2 (rw rest at c.in_err-new_dir.ensures))

pub returns-clause-change : goal.returns-clause-change
returns-clause-change c = λ b.
    let fs : List ℕ = c.args.fields.now in
    let f = c.in_ok-dir.ensures in
    let g = c.in_ok-new_dir.ensures in
    let rest : take (length fs - c.in_ok-dir.size) (drop c.in_ok-dir.size fs) ≡ drop c.in_ok-dir.size fs = take_rest fs c.in_ok-dir.size in
    rename_both b fs c.in_ok-dir.dir _ c.in_ok-dir.size f.0 f.1 f.2 c.in_ok-new_dir.new_dir _ c.in_ok-new_dir.new_size
    (rw rest at g.0) (rw rest at g.1) g.2
