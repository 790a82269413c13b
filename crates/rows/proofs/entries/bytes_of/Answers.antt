-- Each turn writes the bytes of one word more.
use Rattle.std.proofs.Common.{◌≡◌, ◌-◌, ◌*◌, length, take, drop, replicate, sym, ap, ◌∙◌, arith, rules}
use Rattle.std.specs.List.{flat_map}
use Rattle.std.proofs.lemmas.List.{take_all, places}
use Rattle.blocks.specs.Words.{bytes_of}
use Rattle.rows.proofs.Bytes.{bytes_more, zeros_left}
use Rattle.rows.proofs.entries.bytes_of.Goals as goal

pub loop-k-preserved : goal.loop-k-preserved
loop-k-preserved c = (
  search (rules, places),
  bytes_more c.args.words.now c.loop-k.bytes _ c.loop-k.k (omega arith) (omega arith) c.loop-k.invariant.1
      (c.copy_from_slice.ensures.after ∙ c.to_le_bytes.ensures),
  zeros_left c.loop-k.bytes _ c.loop-k.k (omega arith) (ap length (c.copy_from_slice.ensures.after ∙ c.to_le_bytes.ensures)) c.loop-k.invariant.2,
)

pub returns : goal.returns
returns c =
    let k = c.loop-k.k in
    let e : k ≡ length c.args.words.now = omega arith in
    let b : take k c.args.words.now ≡ c.args.words.now = take_all k c.args.words.now (omega arith) in
    record {
      bytes = ap (λ i. take (8 * i) c.loop-k.bytes) (sym e) ∙ (c.loop-k.invariant.1 ∙ ap (flat_map (bytes_of 8)) b);
      rest =
          ap (λ i. drop (8 * i) c.loop-k.bytes) (sym e)
          ∙ (c.loop-k.invariant.2 ∙ ap (λ i. replicate (64 - 8 * i) 0) e);
    }
