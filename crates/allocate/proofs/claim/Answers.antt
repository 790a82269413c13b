use Rattle.std.proofs.Common.{◌≡◌, ℕ, ◌+◌, ◌-◌, ◌*◌, ◌<◌, ◌≤◌, List, length, take, drop, sym, refl, ap, ◌∙◌, subst, arith, length-take, length-drop}
use Rattle.std.specs.List.{AllByRecursion}
use borrow.Rule.Slice.PartMut.{put_mid}
use Rattle.blocks.specs.Bits.{bits_of}
use Rattle.machine.specs.State.{free, marked}
use Rattle.bitmap.proofs.Maps.{length_bits}
use Rattle.bitmap.proofs.Padded.{free_below}
use Rattle.allocate.proofs.claim.Goals as goal

-- the free blocks of a map are below the bits of another as long
below : (n : ℕ) (held map row : List ℕ) → length map ≡ length held → row ≡ free n (bits_of held) 0 →
    AllByRecursion (λ x. x < 64 * length map) row
below n held map row same e =
    subst (λ k. AllByRecursion (λ x. x < k) row) (length_bits held ∙ ap (λ k. 64 * k) (sym same)) (rw e (free_below n (bits_of held)))

-- a part that is lent has as many words as were asked for
long : (at n : ℕ) (cells : List ℕ) → at + n ≤ length cells → length (take ((at + n) - at) (drop at cells)) ≡ n
long at n cells fits = simp (length-take, length-drop) (omega arith)

pub mark_all-requires : goal.mark_all-requires
mark_all-requires c = below _ c.args.status.now.held.now _ _ c.requires.fresh c.take_lowest.ensures.taken

pub mark_all-requires-2 : goal.mark_all-requires-2
mark_all-requires-2 c = below _ c.args.status.now.held.now _ _ c.requires.own c.take_lowest.ensures.taken

pub returns-clause-claimed : goal.returns-clause-claimed
returns-clause-claimed c =
    let at = c.args.at in
    let held = c.args.status.now.held.now in
    let cells = c.args.tables.now.cells.now in
    let e : (at + c.args.count) - at ≡ c.args.count = omega arith in
    let t : c.take_lowest.new.out ≡ free c.args.count (bits_of held) 0 =
    c.take_lowest.ensures.taken ∙ ap (λ n. free n (bits_of held) 0) (long at c.args.count cells c.requires.cells) in
    record {
      nodes = refl;
      sums = refl;
      entries = refl;
      cells = rw e (ap (put_mid at c.args.count cells) t);
      head = refl;
      superblock = refl;
      held = c.take_lowest.ensures.bits ∙ ap (λ n. marked (free n (bits_of held) 0) (bits_of held)) (long at c.args.count cells c.requires.cells);
      fresh = c.mark_all.ensures ∙ ap (λ ks. marked ks (bits_of c.args.status.now.fresh.now)) t;
      own = c.mark_all-2.ensures ∙ ap (λ ks. marked ks (bits_of c.args.status.now.own.now)) t;
      words = (c.maps_fit.ensures.held, c.maps_fit.ensures.fresh, c.maps_fit.ensures.own);
      long = (c.take_lowest.auto.map, c.mark_all.auto.map, c.mark_all-2.auto.map);
    }
