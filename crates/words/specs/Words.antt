-- WORDS FOR BYTES. A byte from 0x21 to 0x7e other than `\` stands for itself, `\xHH` is the byte with these two lower-case
-- hexadecimal digits, `\{N}` after a byte has it stand N times in all, N not 0, and `\-` alone is the word for no bytes.
-- A word ends before a space or with its line. It is read byte by byte, through the states of the code's `Reading`.
-- Definitions only.
use Rattle.std.specs.Prelude.{ℕ, suc, ◌+◌, ◌-◌, ◌*◌, ◌%◌, Bool, true, false, cond, not, ◌&&◌, List, [], ◌∷◌, ◌++◌, length, replicate, Some, None, Ok, Err, Option, Result, ◌==◌, nat_le}
use Rattle.words.specs.declared.reading.Reading.{Reading}
use Rattle.words.specs.declared.reading.Reading.TheVariants.{Begun, Empty, Byte, Repeated, EscapeFirst, EscapeByte, EscapeLast, High}
use Rattle.words.specs.declared.reading.Reading.TheVariants.{Low, Open, Count}
use Rattle.words.specs.Numbers.{digit, more}
use Rattle.words.specs.Outcome.{or_stop}

-- a byte that stands for itself
abbrev pub plain : ℕ → Bool
plain b = (nat_le 33 b && nat_le b 126) && not (b == 92)

-- a hexadecimal digit's value
abbrev pub hex_value : ℕ → Option ℕ
hex_value b = cond (nat_le 48 b && nat_le b 57) (Some (b - 48)) (cond (nat_le 97 b && nat_le b 102) (Some (b - 87)) None)

-- where a byte of the word may begin: one that stands for itself, or `\`
abbrev pub begin : ℕ → Reading → Option Reading
begin b escape = cond (b == 92) (Some escape) (cond (plain b) (Some (Byte b)) None)

-- after `\`, where `x` may follow
abbrev pub escaped : ℕ → Option Reading
escaped b = cond (b == 120) (Some High) None

abbrev pub high : Option ℕ → Option Reading
high None = None
high (Some v) = Some (Low v)

abbrev pub low : ℕ → Option ℕ → Option Reading
low h None = None
low h (Some v) = Some (Byte (h % 16 * 16 + v))

abbrev pub counted : ℕ → Option ℕ → Option Reading
counted x None = None
counted x (Some n) = Some (Count x n)

-- the state after one byte more, if a word may go on so
abbrev pub next : Reading → ℕ → Option Reading
next Begun b = begin b EscapeFirst
next Empty b = None
next (Byte x) b = begin b (EscapeByte x)
next (Repeated x n) b = begin b EscapeLast
next EscapeFirst b = cond (b == 45) (Some Empty) (escaped b)
next (EscapeByte x) b = cond (b == 123) (Some (Open x)) (escaped b)
next EscapeLast b = escaped b
next High b = high (hex_value b)
next (Low h) b = low h (hex_value b)
next (Open x) b = cond (digit b) (Some (Count x (b - 48))) None
next (Count x n) b = cond (digit b) (counted x (more n b)) (cond (b == 125 && not (n == 0)) (Some (Repeated x n)) None)

-- the byte that is added where a state is come to, and how many times
abbrev pub added_byte : Reading → ℕ
added_byte Begun = 0
added_byte Empty = 0
added_byte (Byte x) = x
added_byte (Repeated x n) = x
added_byte EscapeFirst = 0
added_byte (EscapeByte x) = 0
added_byte EscapeLast = 0
added_byte High = 0
added_byte (Low h) = 0
added_byte (Open x) = 0
added_byte (Count x n) = 0

abbrev pub added_times : Reading → ℕ
added_times Begun = 0
added_times Empty = 0
added_times (Byte x) = 1
added_times (Repeated x n) = n - 1
added_times EscapeFirst = 0
added_times (EscapeByte x) = 0
added_times EscapeLast = 0
added_times High = 0
added_times (Low h) = 0
added_times (Open x) = 0
added_times (Count x n) = 0

abbrev pub added : Reading → List ℕ
added s = replicate (added_times s) (added_byte s)

-- may the word end here?
abbrev pub whole : Reading → Bool
whole Begun = false
whole Empty = true
whole (Byte x) = true
whole (Repeated x n) = true
whole EscapeFirst = false
whole (EscapeByte x) = false
whole EscapeLast = false
whole High = false
whole (Low h) = false
whole (Open x) = false
whole (Count x n) = false

abbrev pub close : Reading → List ℕ → List ℕ → Result (List ℕ × List ℕ) ℕ
close s out bs = cond (whole s) (Ok (out, bs)) (Err (length bs))

-- what is left of the bytes of a word, after those that gave out so far
abbrev pub word_on : Reading → List ℕ → List ℕ → Result (List ℕ × List ℕ) ℕ
word_on s out [] = close s out []
word_on s out (b ∷ bs) =
    cond (b == 32) (close s out (b ∷ bs))
    (or_stop (next s b) (suc (length bs)) (λ t. word_on t (out ++ added t) bs))

abbrev pub read_word : List ℕ → Result (List ℕ × List ℕ) ℕ
read_word bs = word_on Begun [] bs
