-- Answers by number: what the code's kinds of answers stand for. Definitions only.
use Rattle.std.specs.Prelude.{ℕ, ◌≡◌, ◌<◌, Result, MatchResult}
use Rattle.calls.specs.declared.answer_kind.AnswerKind.{AnswerKind}
use Rattle.calls.specs.declared.answer_kind.AnswerKind.TheVariants as kind
use Rattle.calls.specs.declared.answer_kind.UnknownAnswerKind.{UnknownAnswerKind}
use Rattle.calls.specs.declared.Answer.{Answer}
use Rattle.calls.specs.declared.Answer.TheVariants.{Refused, Done, Number, Entry, Block}

-- the number of a kind of answers
abbrev pub answer_kind_number : AnswerKind → ℕ
answer_kind_number kind.Refused = 0
answer_kind_number kind.Done = 1
answer_kind_number kind.Number = 2
answer_kind_number kind.Entry = 3
answer_kind_number kind.Block = 4

-- which answer it is
abbrev pub answer_kind_of : Answer → AnswerKind
answer_kind_of (Refused r p) = kind.Refused
answer_kind_of Done = kind.Done
answer_kind_of (Number n) = kind.Number
answer_kind_of (Entry n i) = kind.Entry
answer_kind_of (Block b) = kind.Block

-- the kind with a number, or that no kind has it
abbrev pub AnswerKindRead : ℕ → Result AnswerKind UnknownAnswerKind → Type 0
AnswerKindRead n r = MatchResult r (λ kind. answer_kind_number kind ≡ n) (λ e. (e.0 ≡ n) × (4 < n))
