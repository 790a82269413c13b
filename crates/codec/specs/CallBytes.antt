-- CALLS AS BYTES: first the call's number, then its numbers, then its name or its block, which run to the end. Of a rename's
-- two names the first has its length before it. Bytes that are no call are read as `garbled`, with the place where they cease
-- to be one. Definitions only.
use Rattle.std.specs.Prelude.{ℕ, ◌+◌, Bool, cond, not, ◌&&◌, ◌||◌, List, [], ◌∷◌, ◌++◌, length, take, drop, ◌==◌, nat_le, nat_lt, slice_index}
use Rattle.model.specs.Calls.{Call, find, make_file, make_dir, remove, rename, list, size, read, write}
use Rattle.model.specs.Calls.{resize, sync_file, sync_tree, garbled}
use Rattle.codec.specs.Numbers.{le8, from_le8}
use Rattle.codec.specs.Lengths.{digits, high, value}

-- WRITTEN
abbrev pub call_bytes : Call → List ℕ
call_bytes (find d n) = 0 ∷ le8 d ++ n
call_bytes (make_file d n) = 1 ∷ le8 d ++ n
call_bytes (make_dir d n) = 2 ∷ le8 d ++ n
call_bytes (remove d n) = 3 ∷ le8 d ++ n
call_bytes (rename d n e m) = 4 ∷ le8 d ++ (le8 e ++ (digits (length n) ++ (n ++ m)))
call_bytes (list d k) = 5 ∷ le8 d ++ le8 k
call_bytes (size i) = 6 ∷ le8 i
call_bytes (read i o) = 7 ∷ le8 i ++ le8 o
call_bytes (write i o b) = 8 ∷ le8 i ++ (le8 o ++ b)
call_bytes (resize i n) = 9 ∷ le8 i ++ le8 n
call_bytes (sync_file i) = 10 ∷ le8 i
call_bytes sync_tree = 11 ∷ []
call_bytes (garbled n) = []

-- READ. By a call's number: where its numbers end, and whether more may follow them
abbrev pub numbers_end : ℕ → ℕ
numbers_end k = cond (k == 11) 1 (cond (nat_lt k 4 || (k == 6 || k == 10)) 9 17)

abbrev pub open_ended : ℕ → Bool
open_ended k = nat_lt k 5 || k == 8

-- two names after s bytes of t, the first of v bytes
abbrev pub read_names : ℕ → ℕ → ℕ → ℕ → List ℕ → Call
read_names d e s v t =
    cond (nat_lt (length t) (s + v)) (garbled (17 + length t)) (rename d (take v (drop s t)) e (drop (s + v) t))

-- a rename by what follows its numbers: a length, of which h digits stand before the last, and two names
abbrev pub read_rename : ℕ → ℕ → ℕ → List ℕ → Call
read_rename d e h t =
    cond (nat_le (length t) h) (garbled (17 + length t))
    (cond (nat_lt 0 h && slice_index t h == 0) (garbled (17 + h))
    (read_names d e (h + 1) (value (take (h + 1) t)) t))

-- the call with number k, by its numbers, x and y, and what follows them
abbrev pub call_by : ℕ → ℕ → ℕ → List ℕ → Call
call_by k x y t =
    cond (k == 0) (find x t)
    (cond (k == 1) (make_file x t)
    (cond (k == 2) (make_dir x t)
    (cond (k == 3) (remove x t)
    (cond (k == 4) (read_rename x y (high t) t)
    (cond (k == 5) (list x y)
    (cond (k == 6) (size x)
    (cond (k == 7) (read x y)
    (cond (k == 8) (write x y t)
    (cond (k == 9) (resize x y)
    (cond (k == 10) (sync_file x) sync_tree))))))))))

-- the same, for proofs that should not look into it
unfoldable pub made : ℕ → ℕ → ℕ → List ℕ → Call
made k x y t = call_by k x y t

abbrev pub read_by : ℕ → List ℕ → Call
read_by k b =
    cond (nat_lt 11 k) (garbled 0)
    (cond (nat_lt (length b) (numbers_end k)) (garbled (length b))
    (cond (not (open_ended k) && nat_lt (numbers_end k) (length b)) (garbled (numbers_end k))
    (made k (from_le8 (drop 1 b)) (from_le8 (drop 9 b)) (drop (numbers_end k) b))))

abbrev pub read_call : List ℕ → Call
read_call b = cond (length b == 0) (garbled 0) (read_by (slice_index b 0) b)
