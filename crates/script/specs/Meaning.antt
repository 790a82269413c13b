-- What the code's lines stand for. Definitions only.
use Rattle.std.specs.Prelude.{◌≡◌, ℕ, Ok, Err, vec_items, Result}
use Rattle.model.specs.Calls.{Call, find, make_file, make_dir, remove, rename, list, size, read, write, resize, sync_file, sync_tree}
use Rattle.script.specs.declared.line.Asked.{Asked}
use Rattle.script.specs.declared.line.Asked.TheVariants.{Find, MakeFile, MakeDir, Remove, Rename, List as ListEntry, Size, Read, Write}
use Rattle.script.specs.declared.line.Asked.TheVariants.{Resize, SyncFile, SyncTree}
use Rattle.script.specs.declared.line.Line.{Line as CodeLine}
use Rattle.script.specs.declared.line.Line.TheVariants.{Nothing, Limits, Call as CallLine, Bytes, Power}
use Rattle.script.specs.declared.line.Unreadable.{Unreadable}
use Rattle.script.specs.declared.line.Unreadable.TheVariants.{Column, NoMemory}
use Rattle.script.specs.Lines.{Line, nothing, limits, ask, by_bytes, power}

abbrev pub asked_of : Asked → Call
asked_of (Find d n) = find d (vec_items n)
asked_of (MakeFile d n) = make_file d (vec_items n)
asked_of (MakeDir d n) = make_dir d (vec_items n)
asked_of (Remove d n) = remove d (vec_items n)
asked_of (Rename d n e m) = rename d (vec_items n) e (vec_items m)
asked_of (ListEntry d k) = list d k
asked_of (Size i) = size i
asked_of (Read i o) = read i o
asked_of (Write i o b) = write i o (vec_items b)
asked_of (Resize i n) = resize i n
asked_of (SyncFile i) = sync_file i
asked_of SyncTree = sync_tree

abbrev pub line_of : CodeLine → Line
line_of Nothing = nothing
line_of (Limits l) = limits l.cells l.nodes l.older
line_of (CallLine a) = ask (asked_of a)
line_of (Bytes b) = by_bytes (vec_items b)
line_of (Power n cs) = power n (vec_items cs)

-- what the code tells of a line; only for want of memory it tells less
abbrev pub Failed : Unreadable → Result Line ℕ → Type 0
Failed (Column k) m = m ≡ Err k
Failed NoMemory m = Unit {0}

abbrev pub LineTold : Result CodeLine Unreadable → Result Line ℕ → Type 0
LineTold (Ok x) m = m ≡ Ok (line_of x)
LineTold (Err e) m = Failed e m
