-- The kind, the flag, and the fields.
use Rattle.std.proofs.Common.{◌≡◌, [], ◌∷◌, drop, refl, sym, ◌∙◌, arith, length-drop}
use Rattle.calls.specs.Meaning.{call_of}
use Rattle.machine.specs.Journal.{bit_word}
use Rattle.journal.proofs.ItemWords.{length_item, put_rest, set_two, kind_word, flag_word}
use Rattle.journal.proofs.write.put_item.Goals as goal

pub returns : goal.returns
returns c =
    let k = kind_word c.args.call _ (sym c.kind.ensures ∙ c.unwrap-kind.ensures) in
    let m = length_item c.args.first (call_of c.args.call) in
    let s = set_two c.args.out.now c.from-2.result c.from-3.result (omega arith) in
    let kind = c.from-2.ensures ∙ (c.from.ensures ∙ k) in
    let flag : c.from-3.result ≡ bit_word c.args.first = c.from-3.ensures ∙ flag_word c.args.first in
    rw s
    (put_rest (c.from-2.result ∷ c.from-3.result ∷ []) (drop 2 c.args.out.now) c.put_fields.new.out 2 _ refl (omega (arith, length-drop 2 c.args.out.now))
    ∙ rw (kind, flag, c.put_fields.ensures) refl)
