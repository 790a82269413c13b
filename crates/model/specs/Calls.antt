-- CALLS AND ANSWERS, with the numbers that stand for them. Definitions only.
use Rattle.std.specs.Prelude.{Bool, true, false, ◌&&◌, List, [], ◌∷◌, ℕ, ltb, leb, eqb, length, replicate}
use Rattle.model.specs.Tree.{Name}

-- what a place of a file has, and what a block of the disk has: 4,096 bytes
abbrev pub Block : Type 0
Block = List ℕ

abbrev pub empty_block : Block
empty_block = replicate 4096 0

pub data Call : Type 0 where
  find : ℕ → Name → Call  -- directory, name
  make_file : ℕ → Name → Call  -- directory, name
  make_dir : ℕ → Name → Call  -- directory, name
  remove : ℕ → Name → Call  -- directory, name
  rename : ℕ → Name → ℕ → Name → Call  -- directory and name, the new directory and name
  list : ℕ → ℕ → Call  -- directory, which entry, from 0
  size : ℕ → Call  -- file
  read : ℕ → ℕ → Call  -- file, place
  write : ℕ → ℕ → Block → Call  -- file, place, what it has from now on
  resize : ℕ → ℕ → Call  -- file, how many places
  sync_file : ℕ → Call  -- file
  sync_tree : Call
  garbled : ℕ → Call  -- bytes that are no call, and the place where they cease to be one

pub data Answer : Type 0 where
  refused : ℕ → ℕ → Answer  -- which refusal, and its place
  done : Answer
  number : ℕ → Answer  -- an id, or how many places a file has
  entry : Name → ℕ → Answer  -- a name and an id
  block : Block → Answer

unfoldable pub call_number : Call → ℕ
call_number (find d n) = 0
call_number (make_file d n) = 1
call_number (make_dir d n) = 2
call_number (remove d n) = 3
call_number (rename d n e m) = 4
call_number (list d k) = 5
call_number (size i) = 6
call_number (read i o) = 7
call_number (write i o b) = 8
call_number (resize i n) = 9
call_number (sync_file i) = 10
call_number sync_tree = 11
call_number (garbled n) = 255

-- the place that a refusal tells: only bytes that are no call have one
unfoldable pub place : Call → ℕ
place (find d n) = 0
place (make_file d n) = 0
place (make_dir d n) = 0
place (remove d n) = 0
place (rename d n e m) = 0
place (list d k) = 0
place (size i) = 0
place (read i o) = 0
place (write i o b) = 0
place (resize i n) = 0
place (sync_file i) = 0
place sync_tree = 0
place (garbled n) = n

-- a name has 1 to 64 bytes
abbrev pub good_name : Name → Bool
good_name n = ltb 0 (length n) && leb (length n) 64

-- fields in range: names, a block of 4,096 bytes, and at most 65,536 places
unfoldable pub good_fields : Call → Bool
good_fields (find d n) = good_name n
good_fields (make_file d n) = good_name n
good_fields (make_dir d n) = good_name n
good_fields (remove d n) = good_name n
good_fields (rename d n e m) = good_name n && good_name m
good_fields (list d k) = true
good_fields (size i) = true
good_fields (read i o) = true
good_fields (write i o b) = eqb (length b) 4096
good_fields (resize i n) = leb n 65536
good_fields (sync_file i) = true
good_fields sync_tree = true
good_fields (garbled n) = true

-- calls that only look
unfoldable pub looks : Call → Bool
looks (find d n) = true
looks (make_file d n) = false
looks (make_dir d n) = false
looks (remove d n) = false
looks (rename d n e m) = false
looks (list d k) = true
looks (size i) = true
looks (read i o) = true
looks (write i o b) = false
looks (resize i n) = false
looks (sync_file i) = false
looks sync_tree = false
looks (garbled n) = true

-- a number that eight bytes can carry, and a list of bytes
abbrev pub eight : ℕ → Bool
eight n = ltb n 18446744073709551616

unfoldable pub bytes : List ℕ → Bool
bytes [] = true
bytes (x ∷ xs) = ltb x 256 && bytes xs

-- calls that bytes can carry, however long their names are
unfoldable pub readable : Call → Bool
readable (find d n) = eight d && bytes n
readable (make_file d n) = eight d && bytes n
readable (make_dir d n) = eight d && bytes n
readable (remove d n) = eight d && bytes n
readable (rename d n e m) = (eight d && bytes n) && (eight e && bytes m)
readable (list d k) = eight d && eight k
readable (size i) = eight i
readable (read i o) = eight i && eight o
readable (write i o b) = (eight i && eight o) && bytes b
readable (resize i n) = eight i && eight n
readable (sync_file i) = eight i
readable sync_tree = true
readable (garbled n) = eight n
