-- What the code's answer or call stands for in the model, if there is one. Definitions only.
use Rattle.std.specs.Prelude.{ℕ, ◌≡◌, ◌+◌, ◌<◌, ◌⊎◌, Some, None, Option, Ok, Err, Result}
use Rattle.model.specs.Calls.{Answer, Call, garbled}
use Rattle.calls.specs.declared.Answer.{Answer as CodeAnswer}
use Rattle.calls.specs.declared.Call.{Call as CodeCall}
use Rattle.decode.specs.declared.call.Fault.{Fault}
use Rattle.decode.specs.declared.call.Fault.TheVariants.{CutOff, UpTo}
use Rattle.calls.specs.Meaning.{answer_of, call_of}

abbrev pub any_answer : Option CodeAnswer → Option Answer
any_answer None = None
any_answer (Some a) = Some (answer_of a)

-- a call, or bytes of a length that are none, by where they cease to be one
abbrev pub call_or_garbled : ℕ → Result CodeCall Fault → Call
call_or_garbled length (Ok c) = call_of c
call_or_garbled length (Err CutOff) = garbled length
call_or_garbled length (Err (UpTo place)) = garbled place

-- why fields of a length are not just n: too few, or too many, and after the kind the place is one more
abbrev pub IsNotJust : ℕ → ℕ → Fault → Type 0
IsNotJust n length fault = (length < n × (fault ≡ CutOff)) ⊎ (n < length × (fault ≡ UpTo (1 + n)))
