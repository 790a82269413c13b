-- The sum of the words' set bits.
use Rattle.std.proofs.Common.{rules, ◌≡◌, ℕ, ◌∙◌, arith}
use Rattle.std.specs.List.{sum_by}
use lib.Count.{ones}
use Rattle.bitmap.proofs.Counting.{count_all}
use Rattle.bitmap.proofs.count.Goals as goal

pub returns : goal.returns
returns c =
    let e : c.sum.result ≡ sum_by (λ (w : ℕ). ones w) c.args.map.now = search rules in
    e ∙ count_all c.args.map.now (λ k. omega (arith, c.type_inv.map k))
