-- A TEXT IN LINES. A line ends before a line feed, or with the text. Definitions only.
use Rattle.std.specs.Prelude.{ℕ, suc, ◌+◌, cond, List, [], ◌∷◌, length, take, drop, ◌==◌}

-- how many bytes stand before the first line feed
abbrev pub line_length : List ℕ → ℕ
line_length [] = 0
line_length (b ∷ bs) = cond (b == 10) 0 (suc (line_length bs))

-- the first line, and what comes after its line feed
abbrev pub first_line : List ℕ → List ℕ
first_line bs = take (line_length bs) bs

abbrev pub after_line : List ℕ → List ℕ
after_line bs = cond (line_length bs == length bs) [] (drop (line_length bs + 1) bs)
