-- The turned part with its end cleared is the table closed there.
use Rattle.std.proofs.Common.{◌≡◌, ℕ, ◌-◌, List, length, take, drop, replicate, refl, ap, ◌∙◌, arith, length-append, length-drop, length-take}
use borrow.Rule.Slice.PartMut.{put_mid}
use Rattle.splice.proofs.Splices.{rotated_out}
use Rattle.splice.proofs.words.remove_words.Goals as goal

pub returns : goal.returns
returns c =
    let at : ℕ = c.args.used - c.args.n in
    let turned : List ℕ = put_mid c.args.at (c.args.used - c.args.at) c.args.table.now c.rotate_left.new.self in
    let n : c.args.used - at ≡ c.args.n = omega arith in
    let len : length (take (c.args.used - at) (drop at turned)) ≡ c.args.n =
    simp (length-take, length-drop, length-append) (omega (arith, c.rotate_left.ensures.len, length-take (c.args.used - c.args.at) (drop c.args.at c.args.table.now), length-drop c.args.at c.args.table.now)) in
    let zeros : c.fill.new.self ≡ replicate c.args.n 0 =
    c.fill.ensures.after (λ y e. e) ∙ ap (λ k. replicate k 0) len in
    rw (zeros, n) (rotated_out _ _ _ _ _ _ c.requires.place c.requires.room refl c.rotate_left.ensures.after)
