-- Zeros are bytes.
use Rattle.std.proofs.Common.{◌≡◌, ℕ, zero, suc, true, replicate, refl}
use Rattle.model.specs.Calls.{bytes}

pub bytes_zeros : (n : ℕ) → bytes (replicate n 0) ≡ true
unfolding bytes
bytes_zeros zero = refl
bytes_zeros (suc n) = bytes_zeros n
