use Rattle.std.proofs.Common.{◌≡◌, None, Some, Ok, Err, sym, refl, ap, ◌∙◌, subst, arith}
use Rattle.calls.specs.declared.Refusal.TheVariants.{NoDirectory, NoEntry}
use Rattle.model.specs.Refusals.{in_place}
use Rattle.tables.proofs.Bodies.{dir_at}
use Rattle.lookup.specs.Found.{ids_in}
use Rattle.steps.specs.Steps.{InPlaceTells}
use Rattle.steps.specs.Stages.{limits_of}
use Rattle.lookup.proofs.Typed.{ok_typed}
use Rattle.lookup.proofs.Alike.{ids_named}
use Rattle.check_names.proofs.Moves.{rename_no_source, rename_no_target, rename_no_name, rename_inside, rename_outside, fuel_same}
use Rattle.check_names.proofs.renames.rename.Goals as goal

pub returns-in_err-source : goal.returns-in_err-source
returns-in_err-source c held s t h =
    let l = limits_of s c.args.state.now.room.limits in
    let r : c.from_residual.result ≡ Err NoDirectory = grind arith in
    let n : c.directory.result ≡ None = grind arith in
    rw r (rename_no_source l t c.args.state.now.room.older held c.args.from c.args.old.now c.args.to c.args.name.now
    (rw n at c.directory.ensures.found l t h))

pub returns-in_err-target : goal.returns-in_err-target
returns-in_err-target c held s t h =
    let l = limits_of s c.args.state.now.room.limits in
    let r : c.from_residual-in_err-target.result ≡ Err NoDirectory = grind arith in
    let n : c.directory.result ≡ Some c.in_ok-source.source = grind arith in
    let m : c.directory-2.result ≡ None = grind arith in
    let f = rw n at (c.directory.ensures.found l t h) in
    rw r (rename_no_target l t c.args.state.now.room.older held c.args.from c.args.old.now c.args.to c.args.name.now
    (dir_at f.0 f.1).dir (rw m at c.directory-2.ensures.found l t h))

pub returns-in_err-entry : goal.returns-in_err-entry
returns-in_err-entry c held s t h =
    let l = limits_of s c.args.state.now.room.limits in
    let r : c.from_residual-in_err-entry.result ≡ Err NoEntry = grind arith in
    let n : c.directory.result ≡ Some c.in_ok-source.source = grind arith in
    let m : c.directory-2.result ≡ Some c.in_ok-target.target = grind arith in
    let k : c.name_in.result ≡ None = grind arith in
    let f = rw n at (c.directory.ensures.found l t h) in
    let g = rw m at (c.directory-2.ensures.found l t h) in
    rw r (rename_no_name l t c.args.state.now.room.older held c.args.from c.args.old.now c.args.to c.args.name.now
    (dir_at f.0 f.1).dir (dir_at g.0 g.1).dir (rw k at (c.name_in.ensures l t c.args.from h f.0 f.1)))

pub returns-then-inside : goal.returns-then-inside
returns-then-inside c held s t h =
    let l = limits_of s c.args.state.now.room.limits in
    let n : c.directory.result ≡ Some c.in_ok-source.source = grind arith in
    let m : c.directory-2.result ≡ Some c.in_ok-target.target = grind arith in
    let k : c.name_in.result ≡ Some c.in_ok-entry.entry = grind arith in
    let f = rw n at (c.directory.ensures.found l t h) in
    let g = rw m at (c.directory-2.ensures.found l t h) in
    let e = rw k at (c.name_in.ensures l t c.args.from h f.0 f.1) in
    rename_inside l t c.args.state.now.room.older held c.args.from c.args.old.now c.args.to c.args.name.now
    (dir_at f.0 f.1).dir (dir_at g.0 g.1).dir c.in_ok-entry.entry.id e.1
    (fuel_same t c.args.state.now.tree.view.used.nodes h.holds.nodes_used c.in_ok-entry.entry.id c.args.to
    ∙ sym (c.if-inside.ensures l t h))

pub returns-in_err-same : goal.returns-in_err-same
returns-in_err-same c held s t h =
    let l = limits_of s c.args.state.now.room.limits in
    let older = c.args.state.now.room.older in
    let r : c.from_residual-in_err-same.result ≡ Err c.in_err-same.field-0.0 = grind arith in
    let n : c.directory.result ≡ Some c.in_ok-source.source = grind arith in
    let m : c.directory-2.result ≡ Some c.in_ok-target.target = grind arith in
    let k : c.name_in.result ≡ Some c.in_ok-entry.entry = grind arith in
    let f = rw n at (c.directory.ensures.found l t h) in
    let g = rw m at (c.directory-2.ensures.found l t h) in
    let e = rw k at (c.name_in.ensures l t c.args.from h f.0 f.1) in
    let ids = ids_named t c.args.to c.args.name.now c.name_in-replaced.result
    (c.name_in-replaced.ensures l t c.args.to h g.0 g.1) in
    rw r (rename_outside l t older held c.args.from c.args.old.now c.args.to c.args.name.now
    (dir_at f.0 f.1).dir (dir_at g.0 g.1).dir c.in_ok-entry.entry.id e.1
    (fuel_same t c.args.state.now.tree.view.used.nodes h.holds.nodes_used c.in_ok-entry.entry.id c.args.to
    ∙ sym (c.if-inside.ensures l t h))
    ∙ (ap (in_place l t older c.in_ok-entry.entry.id) ids ∙ c.in_err-same.ensures s t h))

pub returns-then-same : goal.returns-then-same
returns-then-same c held s t h =
    let l = limits_of s c.args.state.now.room.limits in
    let older = c.args.state.now.room.older in
    let n : c.directory.result ≡ Some c.in_ok-source.source = grind arith in
    let m : c.directory-2.result ≡ Some c.in_ok-target.target = grind arith in
    let k : c.name_in.result ≡ Some c.in_ok-entry.entry = grind arith in
    let f = rw n at (c.directory.ensures.found l t h) in
    let g = rw m at (c.directory-2.ensures.found l t h) in
    let e = rw k at (c.name_in.ensures l t c.args.from h f.0 f.1) in
    let id = c.in_ok-entry.entry.id in
    let ids = ids_named t c.args.to c.args.name.now c.name_in-replaced.result
    (c.name_in-replaced.ensures l t c.args.to h g.0 g.1) in
    let p = subst (λ b. InPlaceTells l t older id (ids_in c.name_in-replaced.result) (Ok b))
    c.if-same.true (c.in_ok-same.ensures s t h) in (
      rename_outside l t older held c.args.from c.args.old.now c.args.to c.args.name.now
          (dir_at f.0 f.1).dir (dir_at g.0 g.1).dir id e.1
          (fuel_same t c.args.state.now.tree.view.used.nodes h.holds.nodes_used id c.args.to
          ∙ sym (c.if-inside.ensures l t h))
          ∙ (ap (in_place l t older id) ids ∙ p.0),
      record {
        from = c.args.from;
        old = c.args.old.now;
        to = c.args.to;
        new = c.args.name.now;
        id = id;
        is = refl;
        found = e.1;
        there = ids ∙ p.1;
      },
    )

pub returns : goal.returns
returns c held s t h =
    let l = limits_of s c.args.state.now.room.limits in
    let older = c.args.state.now.room.older in
    let n : c.directory.result ≡ Some c.in_ok-source.source = grind arith in
    let m : c.directory-2.result ≡ Some c.in_ok-target.target = grind arith in
    let k : c.name_in.result ≡ Some c.in_ok-entry.entry = grind arith in
    let f = rw n at (c.directory.ensures.found l t h) in
    let g = rw m at (c.directory-2.ensures.found l t h) in
    let e = rw k at (c.name_in.ensures l t c.args.from h f.0 f.1) in
    let id = c.in_ok-entry.entry.id in
    let r = c.name_in-replaced.ensures l t c.args.to h g.0 g.1 in
    let ids = ids_named t c.args.to c.args.name.now c.name_in-replaced.result r in
    let p = subst (λ b. InPlaceTells l t older id (ids_in c.name_in-replaced.result) (Ok b))
    c.if-same.false (c.in_ok-same.ensures s t h) in
    let out = fuel_same t c.args.state.now.tree.view.used.nodes h.holds.nodes_used id c.args.to
    ∙ sym (c.if-inside.ensures l t h) in (
      rename_outside l t older held c.args.from c.args.old.now c.args.to c.args.name.now
          (dir_at f.0 f.1).dir (dir_at g.0 g.1).dir id e.1 out
          ∙ (ap (in_place l t older id) ids ∙ p.0),
      record {
        old = c.args.old.now;
        is = refl;
        from_dir = record { stands = f.0; kind = f.1 };
        to_dir = record { stands = g.0; kind = g.1 };
        old_ok = ok_typed c.args.old.now c.type_inv.old c.requires.old;
        new_ok = ok_typed c.args.name.now c.type_inv.name c.requires.name;
        entry = e.0;
        found = e.1;
        outside = out;
        taken = r;
        way = p.1;
      },
    )
