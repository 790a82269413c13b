use Rattle.std.proofs.Common.{drop, length, ◌+◌, sym, ap, ◌∙◌, arith, length-drop}
use Rattle.std.proofs.lemmas.List.{take_all}
use Rattle.std.proofs.lemmas.Bool.{cond-false, ne_eqb}
use Rattle.player.specs.Split.{line_length}
use Rattle.player.proofs.Lines.{found, missing}
use Rattle.player.proofs.split_line.Goals as goal

pub returns-in-Some-clause-after : goal.returns-in-Some-clause-after
returns-in-Some-clause-after c =
    let f = found c.args.text.now c.in-Some.n (sym c.in-Some.ensures) in
    take_all _ _ (omega (arith, length-drop (c.in-Some.n + 1) c.args.text.now))
    ∙ ap (λ k. drop (k + 1) c.args.text.now) (sym f.0)
    ∙ sym (cond-false _ _ _ (ne_eqb (line_length c.args.text.now) (length c.args.text.now) (λ e. omega arith)))

pub returns-in-None-clause-line : goal.returns-in-None-clause-line
returns-in-None-clause-line c =
    sym (take_all _ c.args.text.now (omega (arith, missing c.args.text.now (sym c.in-None.ensures))))
