-- WHAT IS PROMISED of lines: calls come back from their lines. Definitions only: the proofs stand elsewhere.
use Rattle.std.specs.Prelude.{◌≡◌, ℕ, ◌<◌, true, cond, Ok, ◌==◌}
use Rattle.model.specs.Calls.{Call, call_number, readable}
use Rattle.lines.specs.Printing.{print_call}
use Rattle.script.specs.Lines.{ask, read_line}

-- a call that bytes can carry
abbrev pub CarriedByBytes : Call → Type 0
CarriedByBytes c = (readable c ≡ true) × (0 < cond {A = ℕ} (call_number c == 255) 0 1)

-- 1. each such call is read back from its line
unfoldable pub CallsComeBack : Type 0
CallsComeBack = (c : Call) → CarriedByBytes c → read_line (print_call c) ≡ Ok (ask c)

-- 2. so different calls have different lines
unfoldable pub CallsToldApart : Type 0
CallsToldApart = (c d : Call) → CarriedByBytes c → CarriedByBytes d → print_call c ≡ print_call d → c ≡ d
