-- A search among n rows that ends at the first that is looked for, or at n. Definitions only.
use Rattle.std.specs.Prelude.{ℕ, Option, Some, None, if◌then◌else◌, nat_lt}

-- the row at which it ended, if that is one of them
abbrev pub found : ℕ → ℕ → Option ℕ
found n k = if nat_lt k n then Some k else None
