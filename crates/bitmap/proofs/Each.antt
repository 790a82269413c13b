-- Many bits set or cleared, one after another: what is marked, and what is unmarked.
use Rattle.std.proofs.Common.{◌≡◌, ℕ, Bool, true, false, List, [], ◌∷◌, set, refl}
use Rattle.machine.specs.State.{marked}
use Rattle.tables.specs.Own.{unmarked}
use Rattle.bitmap.specs.Bitmap.{put_each}

pub each_marked : (ks : List ℕ) (bs : List Bool) → put_each true ks bs ≡ marked ks bs
unfolding put_each marked
each_marked [] bs = refl
each_marked (k ∷ ks) bs = each_marked ks (set bs k true)

pub each_unmarked : (ks : List ℕ) (bs : List Bool) → put_each false ks bs ≡ unmarked ks bs
unfolding put_each unmarked
each_unmarked [] bs = refl
each_unmarked (k ∷ ks) bs = each_unmarked ks (set bs k false)
