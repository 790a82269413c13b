-- Which calls a journal takes, and how many words their items have. Definitions only.
use Rattle.std.specs.Prelude.{◌≡◌, ℕ, ◌+◌, true, length}
use Rattle.model.specs.Calls.{Call, find, make_file, make_dir, remove, rename, list, size, read, write, resize, sync_file, sync_tree}
use Rattle.model.specs.Calls.{garbled, good_name}
use Rattle.machine.specs.Journal.{name_size}

-- calls that change the tree, with names of 1 to 64 bytes
abbrev pub Changing : Call → Type 0
Changing (find d n) = ⊥
Changing (make_file d n) = good_name n ≡ true
Changing (make_dir d n) = good_name n ≡ true
Changing (remove d n) = good_name n ≡ true
Changing (rename d n e m) = (good_name n ≡ true) × (good_name m ≡ true)
Changing (list d k) = ⊥
Changing (size i) = ⊥
Changing (read i o) = ⊥
Changing (write i o b) = ⊥
Changing (resize i n) = Unit {0}
Changing (sync_file i) = ⊥
Changing sync_tree = ⊥
Changing (garbled n) = ⊥

-- how many words their items have; of other calls, which come into no journal, the first two
abbrev pub item_size : Call → ℕ
item_size (find d n) = 2
item_size (make_file d n) = 4 + name_size (length n)
item_size (make_dir d n) = 4 + name_size (length n)
item_size (remove d n) = 4 + name_size (length n)
item_size (rename d n e m) = 6 + name_size (length n) + name_size (length m)
item_size (list d k) = 2
item_size (size i) = 2
item_size (read i o) = 2
item_size (write i o b) = 2
item_size (resize i n) = 4
item_size (sync_file i) = 2
item_size sync_tree = 2
item_size (garbled n) = 2
