-- The bytes with zeros after them, as a word.
use Rattle.std.proofs.Common.{◌++◌, length, drop, replicate, ap, ◌∙◌}
use Rattle.std.specs.Int.{from_le_bytes, w64}
use Rattle.rows.proofs.NameWords.{word_read}
use Rattle.rows.proofs.keys.word.Goals as goal

pub returns : goal.returns
returns c =
    word_read c.args.bytes.now _ c.requires
    (c.from_le_bytes.ensures
    ∙ ap (λ ys. from_le_bytes w64 (ys ++ drop (length c.args.bytes.now) (replicate 8 0))) c.copy_from_slice.ensures.after)
