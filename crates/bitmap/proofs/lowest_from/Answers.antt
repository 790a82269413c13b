-- The first word from there on that is not full has the lowest clear bit.
use Rattle.std.proofs.Common.{rules, ℕ, ◌+◌, List, length, drop, Some, ◌*◌, ◌≤◌, arith, refl, sym, ap, ◌∙◌}
use Rattle.std.specs.List.{position_or_len}
use Rattle.std.proofs.lemmas.List.{take_rest}
use Rattle.std.proofs.lemmas.Iterator.{YieldsList-from_slice}
use Rattle.std.proofs.lemmas.Iterator.Search.{position_from_yields_List}
use Rattle.blocks.specs.Bits.{bits_of}
use Rattle.bitmap.proofs.Maps.{length_bits}
use Rattle.bitmap.proofs.Lowest.{lowest_le, has_clear, search_hit, search_miss}
use Rattle.bitmap.proofs.Lists.{place_some, place_none}
use Rattle.bitmap.proofs.lowest_from.Goals as goal

pub offset_bounds-map-from : goal.offset_bounds-map-from
offset_bounds-map-from c = omega (arith, length_bits c.args.map.now, lowest_le (bits_of c.args.map.now), c.requires.full)

pub slice_bounds-iter-count : goal.slice_bounds-iter-count
slice_bounds-iter-count c = omega (arith, length_bits c.args.map.now, lowest_le (bits_of c.args.map.now), c.requires.full)

pub slice_bounds-iter-start : goal.slice_bounds-iter-start
slice_bounds-iter-start c = omega (arith, length_bits c.args.map.now, lowest_le (bits_of c.args.map.now), c.requires.full)

pub returns-in_err-i : goal.returns-in_err-i
returns-in_err-i c =
    let ws : List ℕ = c.args.map.now in
    let rest : List ℕ = drop c.args.from ws in
    let inside : c.args.from ≤ length ws = omega (arith, length_bits ws, lowest_le (bits_of ws), c.requires.full) in
    let e = position_from_yields_List has_clear _ _ _ c.position.ensures.ran
    (YieldsList-from_slice rest (c.iter.ensures.rest ∙ take_rest ws c.args.from)) (λ x b q k. search rules) in
    c.from_residual.ensures
    ∙ search_miss ws (λ k. omega (arith, c.type_inv.map k)) c.args.from _ inside c.requires.full refl
    (place_none (position_or_len has_clear rest) (length rest) (sym e ∙ c.in_err-i.was))

pub returns : goal.returns
returns c =
    let ws : List ℕ = c.args.map.now in
    let rest : List ℕ = drop c.args.from ws in
    let inside : c.args.from ≤ length ws = omega (arith, length_bits ws, lowest_le (bits_of ws), c.requires.full) in
    let e = position_from_yields_List has_clear _ _ _ c.position.ensures.ran
    (YieldsList-from_slice rest (c.iter.ensures.rest ∙ take_rest ws c.args.from)) (λ x b q k. search rules) in
    let p = place_some (position_or_len has_clear rest) (length rest) c.in_ok-i.field-0 (sym e ∙ c.in_ok-i.was) in
    ap (λ k. Some (64 * (c.args.from + c.in_ok-i.field-0) + k)) c.trailing_ones.ensures
    ∙ search_hit ws (λ k. omega (arith, c.type_inv.map k)) c.args.from c.in_ok-i.field-0 inside c.requires.full p.0 (omega arith)
