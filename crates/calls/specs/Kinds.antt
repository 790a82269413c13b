-- Calls by number: what the code's kinds of calls stand for. Definitions only.
use Rattle.std.specs.Prelude.{ℕ, ◌≡◌, ◌<◌, Some, None, Option, Result, MatchResult}
use Rattle.calls.specs.declared.kind.Kind.{Kind}
use Rattle.calls.specs.declared.kind.Kind.TheVariants.{Find, MakeFile, MakeDir, Remove, Rename, List, Size, Read, Write, Resize, SyncFile, SyncTree}
use Rattle.calls.specs.declared.kind.UnknownKind.{UnknownKind}
use Rattle.calls.specs.declared.Call.{Call}
use Rattle.calls.specs.declared.Call.TheVariants as call
use Rattle.calls.specs.Meaning.{call_of}
use Rattle.model.specs.Calls.{call_number}

-- the number of a kind of calls
abbrev pub kind_number : Kind → ℕ
kind_number Find = 0
kind_number MakeFile = 1
kind_number MakeDir = 2
kind_number Remove = 3
kind_number Rename = 4
kind_number List = 5
kind_number Size = 6
kind_number Read = 7
kind_number Write = 8
kind_number Resize = 9
kind_number SyncFile = 10
kind_number SyncTree = 11

-- which call it is; none for bytes that are no call
abbrev pub kind_of : Call → Option Kind
kind_of (call.Find d n) = Some Find
kind_of (call.MakeFile d n) = Some MakeFile
kind_of (call.MakeDir d n) = Some MakeDir
kind_of (call.Remove d n) = Some Remove
kind_of (call.Rename d n e m) = Some Rename
kind_of (call.List d k) = Some List
kind_of (call.Size i) = Some Size
kind_of (call.Read i o) = Some Read
kind_of (call.Write i o b) = Some Write
kind_of (call.Resize i n) = Some Resize
kind_of (call.SyncFile i) = Some SyncFile
kind_of call.SyncTree = Some SyncTree
kind_of (call.Garbled n) = None

-- the number of a call, by its kind: 255 for bytes that are no call
abbrev pub number_by : Option Kind → ℕ
number_by (Some kind) = kind_number kind
number_by None = 255

-- the kind with a number, or that no kind has it
abbrev pub KindRead : ℕ → Result Kind UnknownKind → Type 0
KindRead n r = MatchResult r (λ kind. kind_number kind ≡ n) (λ e. (e.0 ≡ n) × (11 < n))

-- a call's kind has the number that the model has for the call
abbrev pub KindsNumbered : Type 0
KindsNumbered = (c : Call) → number_by (kind_of c) ≡ call_number (call_of c)
