-- WHAT IS PROMISED OF THE BYTES of calls and answers, each promise a type. Definitions only.
use Rattle.std.specs.Prelude.{◌≡◌, ℕ, ◌<◌, ◌≤◌, Bool, true, not, List, ◌++◌, length, take, Some, ◌==◌}
use Rattle.model.specs.Calls.{Call, garbled, call_number, Answer, bytes, eight, readable}
use Rattle.model.specs.Promise.{Carried}
use Rattle.calls.specs.declared.Refusal.{Refusal}
use Rattle.calls.specs.Meaning.{refusal_number, refusal_from_number}
use Rattle.codec.specs.CallBytes.{call_bytes, read_call}
use Rattle.codec.specs.AnswerBytes.{readable_answer, answer_bytes, read_answer}

abbrev pub is_call : Call → Bool
is_call c = not (call_number c == 255)

-- c is a call that bytes can carry, and bs are its bytes
abbrev pub BytesOf : Call → List ℕ → Type 0
BytesOf c bs = (readable c ≡ true) × (is_call c ≡ true) × (call_bytes c ≡ bs)

-- with bs the bytes of some call begin
abbrev pub BeginsCall : List ℕ → Type 0
BeginsCall bs = (c : Call) × ((rest : List ℕ) × BytesOf c (bs ++ rest))

-- n is the length of the longest front of bs with which some call's bytes begin: that front does, and no longer front
abbrev pub LongestFront : List ℕ → ℕ → Type 0
LongestFront bs n =
    (n ≤ length bs) × BeginsCall (take n bs) × ((m : ℕ) → n < m → m ≤ length bs → BeginsCall (take m bs) → ⊥)

-- CALLS. Each call that bytes can carry is read back from its bytes, however long its names are
abbrev pub CallsCarried : Type 0
CallsCarried = Carried call_bytes read_call

-- nothing else is read as a call: where one is read, the bytes are its bytes
abbrev pub OnlyCallsRead : Type 0
OnlyCallsRead = (bs : List ℕ) → bytes bs ≡ true → is_call (read_call bs) ≡ true → BytesOf (read_call bs) bs

-- bytes that are read as garbled are no call's
abbrev pub GarbledIsNoCall : Type 0
GarbledIsNoCall = (bs : List ℕ) (n : ℕ) → read_call bs ≡ garbled n → (c : Call) → BytesOf c bs → ⊥

-- and the place is the length of the longest front with which some call's bytes begin
abbrev pub GarbledAtLongestFront : Type 0
GarbledAtLongestFront = (bs : List ℕ) (n : ℕ) → bytes bs ≡ true → read_call bs ≡ garbled n → LongestFront bs n

-- two different calls have different bytes
abbrev pub CallsToldApart : Type 0
CallsToldApart = (c d : Call) (bs : List ℕ) → BytesOf c bs → BytesOf d bs → c ≡ d

-- a call's bytes are bytes
abbrev pub CallsAreBytes : Type 0
CallsAreBytes = (c : Call) → readable c ≡ true → bytes (call_bytes c) ≡ true

-- what is read is readable, garbled or not, of bytes that are not too many for a number to count them
abbrev pub ReadIsReadable : Type 0
ReadIsReadable = (bs : List ℕ) → bytes bs ≡ true → eight (length bs) ≡ true → readable (read_call bs) ≡ true

-- ANSWERS. Each refusal goes by its number: there and back, and back and there
abbrev pub RefusalsNumbered : Type 0
RefusalsNumbered =
    ((r : Refusal) → refusal_from_number (refusal_number r) ≡ Some r) ×
    ((k : ℕ) (r : Refusal) → refusal_from_number k ≡ Some r → refusal_number r ≡ k)

-- each answer that bytes can carry is read back from its bytes
abbrev pub AnswersCarried : Type 0
AnswersCarried = (a : Answer) → readable_answer a ≡ true → read_answer (answer_bytes a) ≡ Some a

-- nothing else is read as an answer
abbrev pub OnlyAnswersRead : Type 0
OnlyAnswersRead =
    (bs : List ℕ) (a : Answer) → bytes bs ≡ true → read_answer bs ≡ Some a →
    (readable_answer a ≡ true) × (answer_bytes a ≡ bs)

-- two different answers have different bytes
abbrev pub AnswersToldApart : Type 0
AnswersToldApart =
    (a b : Answer) → readable_answer a ≡ true → readable_answer b ≡ true → answer_bytes a ≡ answer_bytes b → a ≡ b

-- an answer's bytes are bytes
abbrev pub AnswersAreBytes : Type 0
AnswersAreBytes = (a : Answer) → readable_answer a ≡ true → bytes (answer_bytes a) ≡ true
