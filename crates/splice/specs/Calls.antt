-- What a call of a closure answers, as a function of a word. Definitions only.
use Rattle.std.specs.Prelude.{◌≡◌, ℕ, ◌^◌, ◌<◌}

-- what may be answered at a word is what f gives
abbrev pub Computes : (ℕ → ℕ → Type 0) → (ℕ → ℕ) → Type 0
Computes answers f = (x y : ℕ) → x < 2 ^ 64 → answers x y → y ≡ f x
