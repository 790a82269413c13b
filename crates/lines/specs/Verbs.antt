-- THE WORDS WITH WHICH LINES BEGIN. None begins with another, so a line's verb is known once its text has gone by. Where a
-- line begins with none, it ceases to be a line at the first byte with which no verb goes on. Definitions only.
use Rattle.std.specs.Prelude.{ℕ, suc, ◌-◌, max, cond, List, [], ◌∷◌, length, drop, Ok, Err, codes, Result, ◌==◌}
use Rattle.lines.specs.declared.verb.Verb.{Verb}
use Rattle.lines.specs.declared.verb.Verb.TheVariants.{Call as CallVerb, Limits, Bytes, Power}
use Rattle.calls.specs.declared.kind.Kind.TheVariants.{Find, MakeFile, MakeDir, Remove, Rename, List as ListEntry, Size, Read, Write}
use Rattle.calls.specs.declared.kind.Kind.TheVariants.{Resize, SyncFile, SyncTree}

abbrev pub verb_text : Verb → List ℕ
verb_text (CallVerb Find) = codes "find"
verb_text (CallVerb MakeFile) = codes "make-file"
verb_text (CallVerb MakeDir) = codes "make-dir"
verb_text (CallVerb Remove) = codes "remove"
verb_text (CallVerb Rename) = codes "rename"
verb_text (CallVerb ListEntry) = codes "list"
verb_text (CallVerb Size) = codes "size"
verb_text (CallVerb Read) = codes "read"
verb_text (CallVerb Write) = codes "write"
verb_text (CallVerb Resize) = codes "resize"
verb_text (CallVerb SyncFile) = codes "sync-file"
verb_text (CallVerb SyncTree) = codes "sync-tree"
verb_text Limits = codes "limits"
verb_text Bytes = codes "bytes"
verb_text Power = codes "power"

abbrev pub verbs : List Verb
verbs =
    CallVerb Find ∷ CallVerb MakeFile ∷ CallVerb MakeDir ∷ CallVerb Remove ∷ CallVerb Rename ∷ CallVerb ListEntry ∷ CallVerb Read ∷
    CallVerb Resize ∷ CallVerb Size ∷ CallVerb SyncFile ∷ CallVerb Write ∷ CallVerb SyncTree ∷ Limits ∷ Bytes ∷ Power ∷ []

-- how many bytes a list begins with that another begins with too
abbrev pub common : List ℕ → List ℕ → ℕ
common [] ys = 0
common (x ∷ xs) [] = 0
common (x ∷ xs) (y ∷ ys) = cond (x == y) (suc (common xs ys)) 0

-- the first verb of a list with which the line begins; best is how far the line goes with a verb before them
abbrev pub verb_among : ℕ → List Verb → List ℕ → Result (Verb × List ℕ) ℕ
verb_among best [] line = Err (length line - best)
verb_among best (v ∷ vs) line =
    cond (common (verb_text v) line == length (verb_text v)) (Ok (v, drop (length (verb_text v)) line))
    (verb_among (max best (common (verb_text v) line)) vs line)

abbrev pub read_verb : List ℕ → Result (Verb × List ℕ) ℕ
read_verb line = verb_among 0 verbs line
