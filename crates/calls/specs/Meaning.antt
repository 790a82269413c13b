-- What the code's calls, answers and refusals stand for in the model. Definitions only.
use Rattle.std.specs.Prelude.{ℕ, ◌≡◌, cond, Some, None, Option, ◌==◌, Result, MatchResult}
use Rattle.calls.specs.declared.Call.{Call as CodeCall}
use Rattle.calls.specs.declared.Call.TheVariants.{Find, MakeFile, MakeDir, Remove, Rename, List, Size, Read, Write, Resize, SyncFile}
use Rattle.calls.specs.declared.Call.TheVariants.{SyncTree, Garbled}
use Rattle.calls.specs.declared.Answer.{Answer as CodeAnswer}
use Rattle.calls.specs.declared.Answer.TheVariants.{Refused, Done, Number, Entry, Block}
use Rattle.calls.specs.declared.Refusal.{Refusal}
use Rattle.calls.specs.declared.UnknownRefusal.{UnknownRefusal}
use Rattle.calls.specs.declared.Refusal.TheVariants.{NoCall, OutOfRange, NoDirectory, NoFile, NoEntry, NameTaken, InTheWay, NoRoom}
use Rattle.calls.specs.declared.Refusal.TheVariants.{TooManyOlder, NoPlace}
use Rattle.model.specs.Calls.{Call, find, make_file, make_dir, remove, rename, list, size, read, write, resize, sync_file, sync_tree}
use Rattle.model.specs.Calls.{garbled, Answer, refused, done, number, entry, block}

-- a refusal's number, and the refusal with a number
abbrev pub refusal_number : Refusal → ℕ
refusal_number NoCall = 1
refusal_number OutOfRange = 2
refusal_number NoDirectory = 3
refusal_number NoFile = 4
refusal_number NoEntry = 5
refusal_number NameTaken = 6
refusal_number InTheWay = 7
refusal_number NoRoom = 8
refusal_number TooManyOlder = 9
refusal_number NoPlace = 10

abbrev pub refusal_from_number : ℕ → Option Refusal
refusal_from_number k =
    cond (k == 1) (Some NoCall) (cond (k == 2) (Some OutOfRange) (cond (k == 3) (Some NoDirectory)
    (cond (k == 4) (Some NoFile) (cond (k == 5) (Some NoEntry) (cond (k == 6) (Some NameTaken)
    (cond (k == 7) (Some InTheWay) (cond (k == 8) (Some NoRoom) (cond (k == 9) (Some TooManyOlder)
    (cond (k == 10) (Some NoPlace) None)))))))))

-- the refusal with a number, or that there is none
abbrev pub RefusalRead : ℕ → Result Refusal UnknownRefusal → Type 0
RefusalRead n r =
    MatchResult r (λ refusal. refusal_from_number n ≡ Some refusal)
    (λ e. (e.0 ≡ n) × (refusal_from_number n ≡ None))

abbrev pub call_of : CodeCall → Call
call_of (Find d n) = find d n.now
call_of (MakeFile d n) = make_file d n.now
call_of (MakeDir d n) = make_dir d n.now
call_of (Remove d n) = remove d n.now
call_of (Rename d n e m) = rename d n.now e m.now
call_of (List d k) = list d k
call_of (Size i) = size i
call_of (Read i o) = read i o
call_of (Write i o b) = write i o b.now
call_of (Resize i n) = resize i n
call_of (SyncFile i) = sync_file i
call_of SyncTree = sync_tree
call_of (Garbled n) = garbled n

abbrev pub answer_of : CodeAnswer → Answer
answer_of (Refused r p) = refused (refusal_number r) p
answer_of Done = done
answer_of (Number n) = number n
answer_of (Entry n i) = entry n.now i
answer_of (Block b) = block b.now
