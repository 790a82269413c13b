-- BITS OF A MAP: the lowest one that is clear, many set or cleared, and the places of those that are set. Definitions only.
use Rattle.std.specs.Prelude.{ℕ, suc, Bool, cond, List, [], ◌∷◌, length, Option, Some, None, if◌then◌else◌, nat_lt, slice_set}

-- the place of the lowest clear bit, or how many bits there are
abbrev pub lowest_clear : List Bool → ℕ
lowest_clear [] = 0
lowest_clear (b ∷ bs) = cond b (suc (lowest_clear bs)) 0

-- the lowest clear bit, if there is one
abbrev pub lowest_in : List Bool → Option ℕ
lowest_in bs = if nat_lt (lowest_clear bs) (length bs) then Some (lowest_clear bs) else None

-- the bits, once those of a row of numbers are set or cleared, one after another
unfoldable pub put_each : Bool → List ℕ → List Bool → List Bool
put_each on [] bs = bs
put_each on (k ∷ ks) bs = put_each on ks (slice_set bs k on)

-- the places of the set bits, where the first bit has place k
unfoldable pub set_places : List Bool → ℕ → List ℕ
set_places [] k = []
set_places (b ∷ bs) k = cond b (k ∷ set_places bs (suc k)) (set_places bs (suc k))
