-- Items of the journal as code has them, and as the machine's definitions do. Definitions only.
use Rattle.std.specs.Prelude.{◌≡◌, ℕ, ◌+◌, ◌-◌, ◌≤◌, Bool, ◌&&◌, List, length, take, drop, Option, Some, None, if◌then◌else◌, nat_le, slice_index}
use Rattle.std.specs.Option.{option_map}
use Rattle.model.specs.Tree as tree
use Rattle.model.specs.Calls.{Call, make_file, make_dir, remove, rename, resize}
use Rattle.machine.specs.State as machine
use Rattle.machine.specs.Journal.{name_from, named_call}
use Rattle.calls.specs.declared.Call.{Call as CodeCall}
use Rattle.calls.specs.Meaning.{call_of}
use Rattle.journal.specs.declared.names.Name.{Name}
use Rattle.journal.specs.declared.items.Change.{Change}
use Rattle.journal.specs.declared.items.Change.TheVariants.{MakeFile, MakeDir, Remove, Rename, Resize}
use Rattle.journal.specs.declared.items.Item.{Item}

-- the item of a call
abbrev pub item_of : Bool → CodeCall → machine.Item
item_of first call = record { first = first; call = call_of call }

-- what names, changes and items by value stand for
abbrev pub name_in : Name → tree.Name
name_in n = take n.len n.bytes

abbrev pub change_in : Change → Call
change_in (MakeFile d n) = make_file d (name_in n)
change_in (MakeDir d n) = make_dir d (name_in n)
change_in (Remove d n) = remove d (name_in n)
change_in (Rename d n e m) = rename d (name_in n) e (name_in m)
change_in (Resize i n) = resize i n

abbrev pub item_in : Item → machine.Item
item_in i = record { first = i.first; call = change_in i.change }

-- what may be read, with how many words it takes
abbrev pub name_read : Option (Name × ℕ) → Option (tree.Name × ℕ)
name_read r = option_map (λ (x : Name × ℕ). (name_in x.0, x.1)) r

abbrev pub item_read : Option (Item × ℕ) → Option (machine.Item × ℕ)
item_read r = option_map (λ (x : Item × ℕ). (item_in x.0, x.1)) r

-- a directory and a name, read from some words with how many they take
abbrev pub PlaceRead : (ℕ × Name × ℕ) → List ℕ → Type 0
PlaceRead x ws =
    (x.0 ≡ slice_index ws 0) × (name_from (drop 1 ws) ≡ Some (name_in x.1, x.2 - 1)) × (3 ≤ x.2) × (x.2 ≤ length ws)

-- a change, read from what follows the two words in front of it
abbrev pub change_read : Bool → Option (Change × ℕ) → Option (machine.Item × ℕ)
change_read first r = option_map (λ (x : Change × ℕ). (record { first = first; call = change_in x.0 }, 2 + x.1)) r

-- the change with one name that has a number, if it has one
abbrev pub named_by : ℕ → ℕ → tree.Name → Option Call
named_by k d n = if (nat_le 1 k && nat_le k 3) then Some (named_call k d n) else None
