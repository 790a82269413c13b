-- THE FIELDS OF A LINE: each is a space and a number, a word or a choice, and after the last the line ends.
-- Definitions only.
use Rattle.std.specs.Prelude.{ℕ, zero, suc, cond, List, [], ◌∷◌, ◌++◌, length, Ok, Err, Result, ◌==◌}
use Rattle.words.specs.Numbers.{read_number}
use Rattle.words.specs.Outcome.{then}
use Rattle.words.specs.Words.{read_word}
use Rattle.script.specs.declared.fields.Choice.{Choice}

-- what is left after one byte, which has to be this one
abbrev pub after : ℕ → List ℕ → Result (List ℕ) ℕ
after x [] = Err 0
after x (b ∷ bs) = cond (b == x) (Ok bs) (Err (suc (length bs)))

abbrev pub number_field : List ℕ → Result (ℕ × List ℕ) ℕ
number_field t = then (after 32 t) (λ u. read_number u)

abbrev pub word_field : List ℕ → Result (List ℕ × List ℕ) ℕ
word_field t = then (after 32 t) (λ u. read_word u)

-- a directory and a name in it
abbrev pub named_field : List ℕ → Result (ℕ × List ℕ × List ℕ) ℕ
named_field t = then (number_field t) (λ d. then (word_field d.1) (λ n. Ok (d.0, n.0, n.1)))

-- the end of a line, and what was read of it
abbrev pub ended : {A : Type 0} → A → List ℕ → Result A ℕ
ended x [] = Ok x
ended x (b ∷ bs) = Err (suc (length bs))

-- the fields that follow a verb, up to the end
abbrev pub one_named : List ℕ → Result (ℕ × List ℕ) ℕ
one_named t = then (named_field t) (λ p. ended (p.0, p.1) p.2)

abbrev pub one_number : List ℕ → Result ℕ ℕ
one_number t = then (number_field t) (λ p. ended p.0 p.1)

abbrev pub two_numbers : List ℕ → Result (ℕ × ℕ) ℕ
two_numbers t = then (number_field t) (λ p. then (number_field p.1) (λ q. ended (p.0, q.0) q.1))

abbrev pub one_word : List ℕ → Result (List ℕ) ℕ
one_word t = then (word_field t) (λ p. ended p.0 p.1)

-- a choice is a block's number, `=` and a number
abbrev pub choice_of : ℕ → ℕ → Choice
choice_of b k = record { block = b; choice = k }

abbrev pub choice_field : List ℕ → Result (Choice × List ℕ) ℕ
choice_field t =
    then (number_field t) (λ p. then (after 61 p.1) (λ u. then (read_number u) (λ q. Ok (choice_of p.0 q.0, q.1))))

-- at most k choices up to the end, after those that were read
abbrev pub choices : ℕ → List Choice → List ℕ → Result (List Choice) ℕ
choices zero cs t = ended cs t
choices (suc k) cs [] = Ok cs
choices (suc k) cs (b ∷ bs) = then (choice_field (b ∷ bs)) (λ p. choices k (cs ++ (p.0 ∷ [])) p.1)
