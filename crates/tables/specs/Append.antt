-- AN ITEM MORE in the superblock's journal: its words come after those that are there, and the length goes up. A definition and
-- the statement of its law.
use Rattle.std.specs.Prelude.{◌≡◌, ℕ, ◌+◌, Bool, List, [], ◌∷◌, ◌++◌, length, slice_index, slice_set}
use borrow.Rule.Slice.PartMut.{put_mid}
use Rattle.blocks.specs.Words.{pad}
use Rattle.model.specs.Refusals.{Limits}
use Rattle.machine.specs.State.{Item, Counts}
use Rattle.machine.specs.Journal.{item_words}
use Rattle.machine.specs.Layout.{super_words}

abbrev pub item_added : List ℕ → List ℕ → List ℕ
item_added item ws = put_mid (16 + slice_index ws 9) (length item) (slice_set ws 9 (slice_index ws 9 + length item)) item

abbrev pub AppendItem : Type 0
AppendItem = (l : Limits) (live : Bool) (base : Counts) (js : List Item) (i : Item) →
    pad 512 (super_words l live base (js ++ (i ∷ []))) ≡ item_added (item_words i) (pad 512 (super_words l live base js))
