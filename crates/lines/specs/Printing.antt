-- CALLS AND ANSWERS AS LINES, with no line feed. Bytes that are no call print as a line with no bytes, since what they were is
-- not kept. Definitions only.
use Rattle.std.specs.Prelude.{ℕ, List, [], ◌∷◌, ◌++◌, codes}
use Rattle.model.specs.Calls.{Call, find, make_file, make_dir, remove, rename, list, size, read, write, resize, sync_file, sync_tree}
use Rattle.model.specs.Calls.{garbled}
use Rattle.model.specs.Calls.{Answer, refused, done, number, entry, block}
use Rattle.words.specs.Printed.{print_number, print_word}
use Rattle.lines.specs.declared.verb.Verb.TheVariants.{Call as CallVerb}
use Rattle.calls.specs.declared.kind.Kind.{Kind}
use Rattle.calls.specs.declared.kind.Kind.TheVariants.{Find, MakeFile, MakeDir, Remove, Rename, List as ListEntry, Size, Read, Write}
use Rattle.calls.specs.declared.kind.Kind.TheVariants.{Resize, SyncFile, SyncTree}
use Rattle.lines.specs.Verbs.{verb_text}

-- a field: a space before it
abbrev pub number_text : ℕ → List ℕ
number_text n = 32 ∷ print_number n

abbrev pub word_text : List ℕ → List ℕ
word_text bs = 32 ∷ print_word bs

abbrev pub print_named : Kind → ℕ → List ℕ → List ℕ
print_named k d n = verb_text (CallVerb k) ++ (number_text d ++ word_text n)

abbrev pub print_pair : Kind → ℕ → ℕ → List ℕ
print_pair k m n = verb_text (CallVerb k) ++ (number_text m ++ number_text n)

abbrev pub print_one : Kind → ℕ → List ℕ
print_one k i = verb_text (CallVerb k) ++ number_text i

abbrev pub print_rename : ℕ → List ℕ → ℕ → List ℕ → List ℕ
print_rename d n e m = verb_text (CallVerb Rename) ++ (number_text d ++ (word_text n ++ (number_text e ++ word_text m)))

abbrev pub print_write : ℕ → ℕ → List ℕ → List ℕ
print_write i o b = verb_text (CallVerb Write) ++ (number_text i ++ (number_text o ++ word_text b))

abbrev pub print_call : Call → List ℕ
print_call (find d n) = print_named Find d n
print_call (make_file d n) = print_named MakeFile d n
print_call (make_dir d n) = print_named MakeDir d n
print_call (remove d n) = print_named Remove d n
print_call (rename d n e m) = print_rename d n e m
print_call (list d k) = print_pair ListEntry d k
print_call (size i) = print_one Size i
print_call (read i o) = print_pair Read i o
print_call (write i o b) = print_write i o b
print_call (resize i n) = print_pair Resize i n
print_call (sync_file i) = print_one SyncFile i
print_call sync_tree = verb_text (CallVerb SyncTree)
print_call (garbled n) = []

abbrev pub print_answer : Answer → List ℕ
print_answer (refused r p) = codes "refused" ++ (number_text r ++ number_text p)
print_answer done = codes "done"
print_answer (number n) = codes "number" ++ number_text n
print_answer (entry n i) = codes "entry" ++ (word_text n ++ number_text i)
print_answer (block b) = codes "block" ++ word_text b
