-- A SCRIPT PLAYED, line by line: what each line prints, and how the player stands after it. The limits come first and once.
-- No call can be done yet, so each is refused as one that cannot be done, and bytes that are no call as that; power goes at
-- once or waits for acts that do not come. Where a line is in error nothing is printed for it and the player stands as before.
-- Definitions only.
use Rattle.std.specs.Prelude.{◌≡◌, ℕ, Bool, true, false, cond, ◌&&◌, List, [], ◌∷◌, ◌++◌, Some, None, Ok, Err, string_bytes, codes, Option, Result, String, ◌==◌, nat_le}
use Rattle.std.specs.declared.alloc.Global.{Global}
use Rattle.model.specs.Calls.{Call, find, make_file, make_dir, remove, rename, list, size, read, write, resize, sync_file}
use Rattle.model.specs.Calls.{sync_tree, garbled, Answer, refused}
use Rattle.model.specs.Refusals.{Limits as ModelLimits}
use Rattle.model.specs.Fs.{Fs, answer}
use Rattle.codec.specs.CallBytes.{read_call}
use Rattle.lines.specs.Printing.{print_answer}
use Rattle.script.specs.Lines.{Line, nothing, limits, ask, by_bytes, power, read_line}
use Rattle.calls.specs.declared.Limits.{Limits}
use Rattle.script.specs.declared.line.Unreadable.{Unreadable}
use Rattle.script.specs.declared.line.Unreadable.TheVariants as unread
use Rattle.player.specs.declared.Player.{Player}
use Rattle.player.specs.declared.Trouble.{Trouble}
use Rattle.player.specs.declared.Trouble.TheVariants.{Column, NoMemory, NoLimits, LimitsAgain, LimitsRange}

-- limits that this program takes: cells 0 to 64, nodes 1 to 64, older trees 1 to 16
abbrev pub allowed : ℕ → ℕ → ℕ → Bool
allowed c n o = nat_le c 64 && ((nat_le 1 n && nat_le n 64) && (nat_le 1 o && nat_le o 16))

abbrev pub limits_of : ℕ → ℕ → ℕ → Limits
limits_of c n o = record { cells = c; nodes = n; older = o }

-- what a call is answered by a stage that can do none
abbrev pub stage_answer : Call → Answer
stage_answer (find d n) = refused 2 0
stage_answer (make_file d n) = refused 2 0
stage_answer (make_dir d n) = refused 2 0
stage_answer (remove d n) = refused 2 0
stage_answer (rename d n e m) = refused 2 0
stage_answer (list d k) = refused 2 0
stage_answer (size i) = refused 2 0
stage_answer (read i o) = refused 2 0
stage_answer (write i o b) = refused 2 0
stage_answer (resize i n) = refused 2 0
stage_answer (sync_file i) = refused 2 0
stage_answer sync_tree = refused 2 0
stage_answer (garbled n) = refused 1 n

-- and so does the model, whatever the file system is, where no call is among those that can be done
abbrev pub AsTheModel : Type 0
AsTheModel =
    (l : ModelLimits) (s : Fs) (c : Call) → ((k : ℕ) → l.calls_can k ≡ false) → answer l s c ≡ stage_answer c

-- what is printed
abbrev pub answered : Call → List ℕ
answered c = print_answer (stage_answer c) ++ (10 ∷ [])

abbrev pub power_text : List ℕ
power_text = codes "power" ++ (10 ∷ codes "found" ++ (10 ∷ []))

-- what a line does once the limits are known
abbrev pub prints : Bool → Line → Result (List ℕ) Trouble
prints waiting nothing = Ok []
prints waiting (limits c n o) = Err LimitsAgain
prints waiting (ask c) = Ok (answered c)
prints waiting (by_bytes bs) = Ok (answered (read_call bs))
prints waiting (power n cs) = Ok (cond waiting [] (cond (n == 0) power_text []))

-- and before
abbrev pub prints_first : Line → Result (List ℕ) Trouble
prints_first nothing = Ok []
prints_first (limits c n o) = cond (allowed c n o) (Ok []) (Err LimitsRange)
prints_first (ask c) = Err NoLimits
prints_first (by_bytes bs) = Err NoLimits
prints_first (power n cs) = Err NoLimits

abbrev pub printed : Option Limits → Bool → Line → Result (List ℕ) Trouble
printed None waiting l = prints_first l
printed (Some x) waiting l = prints waiting l

-- a line as bytes
abbrev pub printed_for : Option Limits → Bool → Result Line ℕ → Result (List ℕ) Trouble
printed_for ls waiting (Ok l) = printed ls waiting l
printed_for ls waiting (Err k) = Err (Column k)

abbrev pub played : Option Limits → Bool → List ℕ → Result (List ℕ) Trouble
played ls waiting bs = printed_for ls waiting (read_line bs)

-- how the player stands after a line that was played
abbrev pub limits_after : Option Limits → Line → Option Limits
limits_after ls nothing = ls
limits_after ls (limits c n o) = Some (limits_of c n o)
limits_after ls (ask c) = ls
limits_after ls (by_bytes bs) = ls
limits_after ls (power n cs) = ls

-- power waits where it did, or where there are acts to wait for
abbrev pub waits : Bool → ℕ → Bool
waits waiting n = cond waiting true (cond (n == 0) false true)

abbrev pub waits_if : Bool → Bool → ℕ → Bool
waits_if ok waiting n = cond ok (waits waiting n) waiting

abbrev pub waits_after : Bool → Line → Bool
waits_after waiting nothing = waiting
waits_after waiting (limits c n o) = waiting
waits_after waiting (ask c) = waiting
waits_after waiting (by_bytes bs) = waiting
waits_after waiting (power n cs) = waits waiting n

-- how the player stands after a line: as before where there was trouble
abbrev pub Stands : Bool → Player → Player → Line → Type 0
Stands ok before later l =
    (later.limits ≡ cond ok (limits_after before.limits l) before.limits)
    × (later.waiting ≡ cond ok (waits_after before.waiting l) before.waiting)

-- a line that cannot be read is trouble
abbrev pub StandsFor : Bool → Player → Player → Result Line ℕ → Type 0
StandsFor ok before later (Ok l) = Stands ok before later l
StandsFor ok before later (Err k) = (later.limits ≡ before.limits) × (later.waiting ≡ before.waiting)

-- what the code tells; only for want of memory it tells less
abbrev pub Fails : Trouble → Result (List ℕ) Trouble → Type 0
Fails (Column k) m = m ≡ Err (Column k)
Fails NoMemory m = Unit {0}
Fails NoLimits m = m ≡ Err NoLimits
Fails LimitsAgain m = m ≡ Err LimitsAgain
Fails LimitsRange m = m ≡ Err LimitsRange

abbrev pub Says : Result (String Global) Trouble → Result (List ℕ) Trouble → Type 0
Says (Ok t) m = m ≡ Ok (string_bytes t)
Says (Err e) m = Fails e m

-- the trouble with a line that cannot be read
abbrev pub unreadable : Unreadable → Trouble
unreadable (unread.Column k) = Column k
unreadable unread.NoMemory = NoMemory
