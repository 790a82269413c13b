-- ANSWERS AS BYTES: first the answer's number, then its fields; a name or a block runs to the end. Definitions only.
use Rattle.std.specs.Prelude.{ℕ, Bool, true, cond, ◌&&◌, List, [], ◌∷◌, ◌++◌, length, drop, Some, None, Option, ◌==◌, nat_lt, slice_index}
use Rattle.std.specs.Option.{is_some}
use Rattle.model.specs.Calls.{Answer, refused, done, number, entry, block, eight, bytes}
use Rattle.calls.specs.Meaning.{refusal_from_number}
use Rattle.codec.specs.Numbers.{le8, from_le8}

-- WHICH NUMBERS ARE REFUSALS: those that some refusal has. Only this says so.
unfoldable pub is_refusal : ℕ → Bool
is_refusal r = is_some (refusal_from_number r)

-- answers that bytes can carry
unfoldable pub readable_answer : Answer → Bool
readable_answer (refused r p) = is_refusal r && eight p
readable_answer done = true
readable_answer (number n) = eight n
readable_answer (entry n i) = eight i && bytes n
readable_answer (block b) = bytes b

-- WRITTEN
abbrev pub answer_bytes : Answer → List ℕ
answer_bytes (refused r p) = 0 ∷ r ∷ le8 p
answer_bytes done = 1 ∷ []
answer_bytes (number n) = 2 ∷ le8 n
answer_bytes (entry n i) = 3 ∷ le8 i ++ n
answer_bytes (block b) = 4 ∷ b

-- READ
abbrev pub read_refused : List ℕ → Option Answer
read_refused b =
    cond (length b == 10) (cond (is_refusal (slice_index b 1)) (Some (refused (slice_index b 1) (from_le8 (drop 2 b)))) None) None

abbrev pub answer_by : ℕ → List ℕ → Option Answer
answer_by k b =
    cond (k == 0) (read_refused b)
    (cond (k == 1) (cond (length b == 1) (Some done) None)
    (cond (k == 2) (cond (length b == 9) (Some (number (from_le8 (drop 1 b)))) None)
    (cond (k == 3) (cond (nat_lt (length b) 9) None (Some (entry (drop 9 b) (from_le8 (drop 1 b)))))
    (cond (k == 4) (Some (block (drop 1 b))) None))))

abbrev pub read_answer : List ℕ → Option Answer
read_answer b = cond (length b == 0) None (answer_by (slice_index b 0) b)
