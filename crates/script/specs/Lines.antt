-- LINES. A line with no bytes and one that begins with `#` are passed over. Any other is a verb, its fields and the end.
-- Where it ceases to be a line, the column is told, counted from 1: that of the first byte with which no line can go on in
-- the way it was read, or the one just past the end where something is missing. Definitions only.
use Rattle.std.specs.Prelude.{ℕ, ◌+◌, ◌-◌, min, Bool, true, cond, List, [], ◌∷◌, length, Ok, Err, Result, ◌==◌}
use Rattle.model.specs.Calls.{Call, find, make_file, make_dir, remove, rename, list, size, read, write, resize, sync_file, sync_tree}
use Rattle.words.specs.Outcome.{then}
use Rattle.script.specs.declared.fields.Choice.{Choice}
use Rattle.calls.specs.declared.kind.Kind.{Kind}
use Rattle.calls.specs.declared.kind.Kind.TheVariants.{Find, MakeFile, MakeDir, Remove, Rename, List as ListEntry, Size, Read, Write}
use Rattle.calls.specs.declared.kind.Kind.TheVariants.{Resize, SyncFile, SyncTree}
use Rattle.lines.specs.declared.verb.Verb.{Verb}
use Rattle.lines.specs.declared.verb.Verb.TheVariants.{Call as CallVerb, Limits, Bytes, Power}
use Rattle.lines.specs.Verbs.{read_verb}
use Rattle.script.specs.Fields.{number_field, word_field, named_field, ended, one_named, one_number, two_numbers, one_word, choices}

pub data Line : Type 0 where
  nothing : Line
  limits : ℕ → ℕ → ℕ → Line  -- cells, nodes, older trees
  ask : Call → Line
  by_bytes : List ℕ → Line  -- a call by its bytes
  power : ℕ → List Choice → Line  -- once so many acts are done, and what blocks have then

-- the fields that follow the verb of a call, and the call that they make
abbrev pub read_rename : List ℕ → Result Call ℕ
read_rename t =
    then (named_field t) (λ p. then (named_field p.2) (λ q. ended (rename p.0 p.1 q.0 q.1) q.2))

abbrev pub read_write : List ℕ → Result Call ℕ
read_write t =
    then (number_field t) (λ i. then (number_field i.1) (λ o. then (word_field o.1) (λ b.
    ended (write i.0 o.0 b.0) b.1)))

abbrev pub read_asked : Kind → List ℕ → Result Call ℕ
read_asked Find t = then (one_named t) (λ p. Ok (find p.0 p.1))
read_asked MakeFile t = then (one_named t) (λ p. Ok (make_file p.0 p.1))
read_asked MakeDir t = then (one_named t) (λ p. Ok (make_dir p.0 p.1))
read_asked Remove t = then (one_named t) (λ p. Ok (remove p.0 p.1))
read_asked Rename t = read_rename t
read_asked ListEntry t = then (two_numbers t) (λ p. Ok (list p.0 p.1))
read_asked Size t = then (one_number t) (λ i. Ok (size i))
read_asked Read t = then (two_numbers t) (λ p. Ok (read p.0 p.1))
read_asked Write t = read_write t
read_asked Resize t = then (two_numbers t) (λ p. Ok (resize p.0 p.1))
read_asked SyncFile t = then (one_number t) (λ i. Ok (sync_file i))
read_asked SyncTree t = ended sync_tree t

-- the fields that follow each verb, and the line that they make
abbrev pub read_limits : List ℕ → Result Line ℕ
read_limits t =
    then (number_field t) (λ c. then (two_numbers c.1) (λ p. Ok (limits c.0 p.0 p.1)))

abbrev pub read_power : List ℕ → Result Line ℕ
read_power t = then (number_field t) (λ n. then (choices (length n.1) [] n.1) (λ cs. Ok (power n.0 cs)))

abbrev pub read_fields : Verb → List ℕ → Result Line ℕ
read_fields (CallVerb k) t = then (read_asked k t) (λ c. Ok (ask c))
read_fields Limits t = read_limits t
read_fields Bytes t = then (one_word t) (λ bs. Ok (by_bytes bs))
read_fields Power t = read_power t

-- is the line passed over?
abbrev pub passed : List ℕ → Bool
passed [] = true
passed (b ∷ bs) = b == 35

-- a line, or how many of its bytes are left where it ceases to be one
abbrev pub read_whole : List ℕ → Result Line ℕ
read_whole line = cond (passed line) (Ok nothing) (then (read_verb line) (λ v. read_fields v.0 v.1))

-- a line, or the column; one past 2^64 - 1 is told as that
abbrev pub column : ℕ → ℕ → ℕ
column long left = min (long - left + 1) 18446744073709551615

abbrev pub in_columns : ℕ → Result Line ℕ → Result Line ℕ
in_columns long (Ok x) = Ok x
in_columns long (Err left) = Err (column long left)

abbrev pub read_line : List ℕ → Result Line ℕ
read_line line = in_columns (length line) (read_whole line)
