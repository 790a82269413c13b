-- The places whose bit is set are those of the word.
use Rattle.std.proofs.Common.{rules, ap, sym, refl, ◌∙◌}
use Rattle.std.specs.List.{slice_get}
use Rattle.std.proofs.lemmas.Iterator.{YieldsList-from_range}
use Rattle.std.proofs.lemmas.Iterator.Adapters.{option_map_id}
use Rattle.std.proofs.lemmas.Iterator.Consumers.{YieldsList-from_filter, nth_from_yields_List}
use Rattle.bitmap.proofs.Places.{bit_set, word_places}
use Rattle.bitmap.proofs.nth_set.Goals as goal

pub returns-clause-place : goal.returns-clause-place
returns-clause-place c =
    (search rules)
    ∙ (sym (option_map_id c.nth.result)
    ∙ (nth_from_yields_List c.nth.result _ c.args.k c.nth.ensures.ran
    (YieldsList-from_filter _ (bit_set c.args.word) (YieldsList-from_range 0 64 64 c.filter.ensures.source refl)
    c.filter.ensures.closure (λ x b q k. search rules))
    ∙ ap (λ t. slice_get t c.args.k) (word_places c.args.word)))
