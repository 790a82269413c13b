-- WHAT WRITING DOES to the bytes that are written over, and what it gives back. Definitions only.
use Rattle.std.specs.Prelude.{ℕ, cond, List, ◌++◌, length, drop, Some, None, Option, nat_lt}
use Rattle.model.specs.Calls.{Call, find, make_file, make_dir, remove, rename, list, size, read, write}
use Rattle.model.specs.Calls.{resize, sync_file, sync_tree, garbled}
use Rattle.codec.specs.CallBytes.{call_bytes}

-- bytes written over the front of others
abbrev pub onto : List ℕ → List ℕ → List ℕ
onto bs out = bs ++ drop (length bs) out

-- how many bytes were written, and what is there then: where there is no room, none and what was
abbrev pub put : List ℕ → List ℕ → Option ℕ × List ℕ
put bs out = cond (nat_lt (length out) (length bs)) (None, out) (Some (length bs), onto bs out)

-- each call is written, but garbled, which has no bytes
abbrev pub put_call : Call → List ℕ → Option ℕ × List ℕ
put_call (find d n) out = put (call_bytes (find d n)) out
put_call (make_file d n) out = put (call_bytes (make_file d n)) out
put_call (make_dir d n) out = put (call_bytes (make_dir d n)) out
put_call (remove d n) out = put (call_bytes (remove d n)) out
put_call (rename d n e m) out = put (call_bytes (rename d n e m)) out
put_call (list d k) out = put (call_bytes (list d k)) out
put_call (size i) out = put (call_bytes (size i)) out
put_call (read i o) out = put (call_bytes (read i o)) out
put_call (write i o b) out = put (call_bytes (write i o b)) out
put_call (resize i n) out = put (call_bytes (resize i n)) out
put_call (sync_file i) out = put (call_bytes (sync_file i)) out
put_call sync_tree out = put (call_bytes sync_tree) out
put_call (garbled n) out = (None, out)
