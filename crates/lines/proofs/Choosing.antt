-- THE VERB OF A LINE, one verb after another: the line begins with it, or the next one is tried.
use Rattle.std.proofs.Common.{◌≡◌, ℕ, ◌+◌, ◌<◌, max, List, length, get_or, drop, Ok, sym, ap, ◌∙◌}
use Rattle.std.proofs.lemmas.List.{at_drop_more}
use Rattle.std.proofs.lemmas.Bool.{cond-true, cond-false, eq-eqb, ne_eqb}
use Rattle.lines.specs.declared.verb.Verb.{Verb}
use Rattle.lines.specs.Verbs.{verb_text, common, verb_among}

module _ (best : ℕ) (vs : List Verb) (k : ℕ) (line text : List ℕ) (n : ℕ) (d : Verb) (h : k < length vs)
    (t : text ≡ verb_text (get_or vs k d)) (c : n ≡ common text line) where
  goes : n ≡ common (verb_text (get_or vs k d)) line
  goes = c ∙ ap (λ xs. common xs line) t

  pub found : (left : List ℕ) → n ≡ length text → left ≡ drop n line → verb_among best (drop k vs) line ≡ Ok (get_or vs k d, left)
  found left e l =
      at_drop_more (λ ws. verb_among best ws line) vs k d h
      ∙ cond-true _ _ _ (eq-eqb _ _ (sym goes ∙ e ∙ ap length t))
      ∙ ap (λ m. Ok (get_or vs k d, drop m line)) (sym (e ∙ ap length t)) ∙ ap (λ xs. Ok (get_or vs k d, xs)) (sym l)

  pub missed : (m : ℕ) → (n ≡ length text → ⊥) → m ≡ max best n →
      verb_among best (drop k vs) line ≡ verb_among m (drop (k + 1) vs) line
  missed m e l =
      at_drop_more (λ ws. verb_among best ws line) vs k d h
      ∙ cond-false _ _ _ (ne_eqb _ _ (λ f. e (goes ∙ f ∙ sym (ap length t))))
      ∙ ap (λ j. verb_among (max best j) (drop (k + 1) vs) line) (sym goes)
      ∙ ap (λ j. verb_among j (drop (k + 1) vs) line) (sym l)
