-- What a node is, by the number that the table has for it. Definitions only.
use Rattle.std.specs.Prelude.{ℕ, ◌≡◌, ◌<◌, Result, MatchResult}
use Rattle.rows.specs.declared.nodes.Kind.{Kind}
use Rattle.rows.specs.declared.nodes.Kind.TheVariants.{Dir, File}
use Rattle.rows.specs.declared.nodes.UnknownKind.{UnknownKind}

-- the number that the table has for a kind
abbrev pub kind_number : Kind → ℕ
kind_number Dir = 0
kind_number File = 1

-- the kind with a number, or that no kind has it
abbrev pub KindRead : ℕ → Result Kind UnknownKind → Type 0
KindRead n r = MatchResult r (λ kind. kind_number kind ≡ n) (λ e. (e.0 ≡ n) × (1 < n))
