-- WHAT READING GIVES: a value with the bytes that are left after it, or, where the bytes cease to be what is read, how many
-- are left there. Definitions only.
use Rattle.std.specs.Prelude.{◌≡◌, ℕ, Some, None, Ok, Err, Option, Result}
use Rattle.words.specs.declared.Unread.{Unread}
use Rattle.words.specs.declared.Unread.TheVariants.{Left, NoMemory}

-- one after another: the second goes on from what the first gave
abbrev pub then : {A B : Type 0} → Result A ℕ → (A → Result B ℕ) → Result B ℕ
then (Ok x) f = f x
then (Err n) f = Err n

-- a value that may be missing; without it reading stops with n bytes left
abbrev pub or_stop : {A B : Type 0} → Option A → ℕ → (A → Result B ℕ) → Result B ℕ
or_stop None n f = Err n
or_stop (Some x) n f = f x

-- what the code tells agrees with what a definition gives; only for want of memory it tells less
abbrev pub Stopped : {B : Type 0} → Unread → Result B ℕ → Type 0
Stopped (Left n) m = m ≡ Err n
Stopped NoMemory m = Unit {0}

abbrev pub Told : {A B : Type 0} → (A → B) → Result A Unread → Result B ℕ → Type 0
Told f (Ok x) m = m ≡ Ok (f x)
Told f (Err e) m = Stopped e m
