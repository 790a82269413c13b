-- The numbers of calls: one case for each, so that proofs on each kind of call go by its name.
use Rattle.std.proofs.Common.{ℕ, zero, suc, ◌≤◌, arith}

pub data Kind : ℕ → Type 0 where
  a_find : Kind 0
  a_make_file : Kind 1
  a_make_dir : Kind 2
  a_remove : Kind 3
  a_rename : Kind 4
  a_list : Kind 5
  a_size : Kind 6
  a_read : Kind 7
  a_write : Kind 8
  a_resize : Kind 9
  a_sync_file : Kind 10
  a_sync_tree : Kind 11

pub kind : (k : ℕ) → k ≤ 11 → Kind k
kind zero h = a_find
kind (suc zero) h = a_make_file
kind (suc (suc zero)) h = a_make_dir
kind (suc (suc (suc zero))) h = a_remove
kind (suc (suc (suc (suc zero)))) h = a_rename
kind (suc (suc (suc (suc (suc zero))))) h = a_list
kind (suc (suc (suc (suc (suc (suc zero)))))) h = a_size
kind (suc (suc (suc (suc (suc (suc (suc zero))))))) h = a_read
kind (suc (suc (suc (suc (suc (suc (suc (suc zero)))))))) h = a_write
kind (suc (suc (suc (suc (suc (suc (suc (suc (suc zero))))))))) h = a_resize
kind (suc (suc (suc (suc (suc (suc (suc (suc (suc (suc zero)))))))))) h = a_sync_file
kind (suc (suc (suc (suc (suc (suc (suc (suc (suc (suc (suc zero))))))))))) h = a_sync_tree
kind (suc (suc (suc (suc (suc (suc (suc (suc (suc (suc (suc (suc k)))))))))))) h = absurd (omega arith)
