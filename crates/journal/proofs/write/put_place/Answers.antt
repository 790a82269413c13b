-- The id, and then the first words of the key, which are the name's.
use Rattle.std.proofs.Common.{◌≡◌, ℕ, [], ◌∷◌, take, drop, refl, ap, ◌∙◌, arith, length-drop, length-set}
use Rattle.machine.specs.Journal.{name_words}
use Rattle.journal.proofs.ItemWords.{key_front, put_rest, set_one}
use Rattle.journal.proofs.write.put_place.Goals as goal

pub returns : goal.returns
returns c =
    let k : ℕ = c.name_size-size.result in
    let e : c.copy_from_slice.new.self ≡ name_words c.args.name.now =
    c.copy_from_slice.ensures.after ∙ (ap (take k) c.name_key.ensures ∙ key_front c.args.name.now k c.name_size-size.ensures c.requires.name) in
    let s = set_one c.args.out.now c.args.dir (omega arith) in
    let l = length-set c.args.out.now 0 c.args.dir in
    rw s
    (put_rest (c.args.dir ∷ []) (drop 1 c.args.out.now) c.copy_from_slice.new.self 1 _ refl
    (omega (arith, length-drop 1 c.args.out.now, c.requires.room)) ∙ ap (λ ws. c.args.dir ∷ ws) e)
