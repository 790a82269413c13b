-- WHAT THE LAYOUT CAN CARRY: trees, journals and states. Whatever happens, the program has only such. Definitions only.
use Rattle.std.specs.Prelude.{◌≡◌, ℕ, suc, ◌<◌, ◌≤◌, Bool, true, false, ◌&&◌, List, [], ◌∷◌, length, nat_le, nat_lt}
use Rattle.model.specs.Tree.{Name, Entry, Node, Tree, entries, all_cells}
use Rattle.model.specs.Calls.{Call, find, make_file, make_dir, remove, rename, list, size, read, write, resize, sync_file, sync_tree}
use Rattle.model.specs.Calls.{garbled, good_name, bytes}
use Rattle.model.specs.Refusals.{Limits}
use Rattle.model.specs.Fs.{is_in}
use Rattle.model.specs.Laws.{cell_twice}
use Rattle.machine.specs.State.{Item, State, entry_count}

unfoldable pub every : {A : Type 0} → (A → Bool) → List A → Bool
every p [] = true
every p (x ∷ xs) = p x && every p xs

-- 1 to 64 bytes
abbrev pub ok_name : Name → Bool
ok_name n = good_name n && bytes n

-- ids below the next, and names that are names
abbrev pub ok_entry : ℕ → Entry → Bool
ok_entry next e = nat_lt e.id next && ok_name e.name

abbrev pub ok_node : ℕ → Node → Bool
ok_node next t = nat_lt t.id next && every (ok_entry next) (entries (t.body ∷ []))

-- ids ascend, from one on
unfoldable pub rising : ℕ → List Node → Bool
rising low [] = true
rising low (t ∷ ts) = nat_le low t.id && rising (suc t.id) ts

-- few nodes, with ids that ascend; fewer entries than nodes, and cells that are data blocks, none twice
pub record Fits (l : Limits) (t : Tree) : Type 0 where
  pub few : length t.nodes ≤ l.nodes_most
  pub small : t.next ≤ 4294967295
  pub ok : every (ok_node t.next) t.nodes ≡ true
  pub ascend : rising 0 t.nodes ≡ true
  pub named_few : entry_count t.nodes < length t.nodes
  pub apart : cell_twice (all_cells t.nodes) ≡ false
  pub inside : (x : ℕ) → is_in x (all_cells t.nodes) ≡ true → x < l.room

-- calls that a journal can carry: those that change the tree, with ids of four bytes
unfoldable pub ok_call : Call → Bool
ok_call (find d n) = false
ok_call (make_file d n) = nat_lt d 4294967296 && ok_name n
ok_call (make_dir d n) = nat_lt d 4294967296 && ok_name n
ok_call (remove d n) = nat_lt d 4294967296 && ok_name n
ok_call (rename d n e m) = (nat_lt d 4294967296 && ok_name n) && (nat_lt e 4294967296 && ok_name m)
ok_call (list d k) = false
ok_call (size i) = false
ok_call (read i o) = false
ok_call (write i o b) = false
ok_call (resize i n) = nat_lt i 4294967296 && nat_lt n 4294967296
ok_call (sync_file i) = false
ok_call sync_tree = false
ok_call (garbled n) = false

unfoldable pub ok_journal : List Item → Bool
ok_journal [] = true
ok_journal (i ∷ is) = ok_call i.call && ok_journal is

-- a state, where so many words of journal may be
pub record Carries (fits : Limits → List Item → Bool) (l : Limits) (st : State) : Type 0 where
  pub tree_fits : Fits l st.tree
  pub few_older : st.older ≤ l.pending
  pub held_long : length st.held ≡ l.room
  pub fresh_long : length st.fresh ≡ l.room
  pub journal_fits : fits l st.journal ≡ true
  pub journal_ok : ok_journal st.journal ≡ true
