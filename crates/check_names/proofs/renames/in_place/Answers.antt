use Rattle.std.proofs.Common.{[], ◌∷◌, sym, ap, ◌∙◌}
use Rattle.lookup.specs.Found.{ids_in}
use Rattle.steps.specs.Stages.{limits_of}
use Rattle.check_names.proofs.Moves.{Clear, free, other, place_self, place_unlike, place_full, place_late, place_done, place_way}
use Rattle.check_names.proofs.renames.in_place.Goals as goal
use Rattle.check_names.proofs.renames.in_place.Goals.{then-not-alike-via-then-not-alike, then-not-alike-via-else-not-alike+then-has_entries}
use Rattle.check_names.proofs.renames.in_place.Goals.{in-Some+else-other-id+else-not-alike+else-has_entries, in_default}

pub returns-then-other-id : goal.returns-then-other-id
returns-then-other-id c s t h =
    let l = limits_of s c.args.state.now.room.limits in
    let e = ap ids_in c.in-Some.is in (
      place_self l t c.args.state.now.room.older c.args.id (ids_in c.args.replaced) c.in-Some.other.id e (sym c.if-other-id.true),
      e ∙ ap (λ j. j ∷ []) c.if-other-id.true,
    )

pub returns-then-not-alike : goal.returns-then-not-alike
returns-then-not-alike c s t h =
    let l = limits_of s c.args.state.now.room.limits in
    let older = c.args.state.now.room.older in
    let js = ids_in c.args.replaced in
    elim c.then-not-alike.branch [
      | then-not-alike-via-then-not-alike w ↦
          place_unlike l t older c.args.id js c.in-Some.other.id (ap ids_in c.in-Some.is)
          (λ q. c.if-other-id.false (sym q)) (sym (w.if-not-alike.ensures l t h))
      | then-not-alike-via-else-not-alike+then-has_entries w ↦
          place_full l t older c.args.id js c.in-Some.other.id (ap ids_in c.in-Some.is)
          (λ q. c.if-other-id.false (sym q)) (sym (w.if-not-alike.ensures l t h)) (sym (w.if-has_entries.ensures l t h))
    ]

pub returns-then-not-may_change : goal.returns-then-not-may_change
returns-then-not-may_change c s t h =
    let l = limits_of s c.args.state.now.room.limits in
    let js = ids_in c.args.replaced in
    let w : Clear t c.args.id js =
    elim c.match-replaced.branch [
      | in-Some+else-other-id+else-not-alike+else-has_entries w ↦
          other w.in-Some.other.id (ap ids_in w.in-Some.is) (λ q. w.if-other-id.false (sym q))
          (sym (w.if-not-alike.ensures l t h)) (w.if-has_entries.ensures l t h)
      | in_default w ↦ free (ap ids_in w.in_default.is)
    ] in
    place_late l t c.args.state.now.room.older c.args.id js w (sym c.if-not-may_change.ensures)

pub returns : goal.returns
returns c s t h =
    let l = limits_of s c.args.state.now.room.limits in
    let older = c.args.state.now.room.older in
    let js = ids_in c.args.replaced in
    let w : Clear t c.args.id js =
    elim c.match-replaced.branch [
      | in-Some+else-other-id+else-not-alike+else-has_entries w ↦
          other w.in-Some.other.id (ap ids_in w.in-Some.is) (λ q. w.if-other-id.false (sym q))
          (sym (w.if-not-alike.ensures l t h)) (w.if-has_entries.ensures l t h)
      | in_default w ↦ free (ap ids_in w.in_default.is)
    ] in
    let o = sym c.if-not-may_change.ensures in
    (place_done l t older c.args.id js w o, place_way l t older c.args.id js w o)
