-- A call's bytes are bytes, and what is read of bytes is readable.
use Rattle.std.proofs.Common.{◌≡◌, ◌<◌, true, ◌&&◌, [], length, sym, refl, ap, subst, arith}
use Rattle.std.proofs.lemmas.Bool.{ltb-true, lt-ltb, and_parts}
use Rattle.model.specs.Calls.{Call, find, make_file, make_dir, remove, rename, list, size, read, write}
use Rattle.model.specs.Calls.{resize, sync_file, sync_tree, garbled, call_number, bytes, eight, readable}
use Rattle.codec.specs.CallBytes.{read_call}
use Rattle.codec.specs.Promises.{is_call, CallsAreBytes, ReadIsReadable}
use Rattle.codec.proofs.Bytes.{bytes_nil, bytes_cons, bytes-append}
use Rattle.codec.proofs.Numbers.{bytes_le8}
use Rattle.codec.proofs.Digits.{bytes_digits}
use Rattle.codec.proofs.Only.{only_calls}
use Rattle.codec.proofs.Place.{longest_front}

pub calls_bytes : CallsAreBytes
unfolding readable
calls_bytes (find d n) r = bytes_cons 0 _ (omega arith) (bytes_le8 d n (and_parts _ _ r).1)
calls_bytes (make_file d n) r = bytes_cons 1 _ (omega arith) (bytes_le8 d n (and_parts _ _ r).1)
calls_bytes (make_dir d n) r = bytes_cons 2 _ (omega arith) (bytes_le8 d n (and_parts _ _ r).1)
calls_bytes (remove d n) r = bytes_cons 3 _ (omega arith) (bytes_le8 d n (and_parts _ _ r).1)
calls_bytes (rename d n e m) r =
    let p = and_parts (eight d && bytes n) (eight e && bytes m) r in
    let nn = (and_parts (eight d) (bytes n) p.0).1 in
    let mm = (and_parts (eight e) (bytes m) p.1).1 in
    let dd = bytes_digits (length n) (length n) (omega arith) in
    bytes_cons 4 _ (omega arith) (bytes_le8 d _ (bytes_le8 e _ (bytes-append _ _ dd (bytes-append n m nn mm))))
calls_bytes (list d k) r = bytes_cons 5 _ (omega arith) (bytes_le8 d _ (bytes_le8 k [] bytes_nil))
calls_bytes (size i) r = bytes_cons 6 _ (omega arith) (bytes_le8 i [] bytes_nil)
calls_bytes (read i o) r = bytes_cons 7 _ (omega arith) (bytes_le8 i _ (bytes_le8 o [] bytes_nil))
calls_bytes (write i o b) r = bytes_cons 8 _ (omega arith) (bytes_le8 i _ (bytes_le8 o b (and_parts _ _ r).1))
calls_bytes (resize i n) r = bytes_cons 9 _ (omega arith) (bytes_le8 i _ (bytes_le8 n [] bytes_nil))
calls_bytes (sync_file i) r = bytes_cons 10 _ (omega arith) (bytes_le8 i [] bytes_nil)
calls_bytes sync_tree r = bytes_cons 11 [] (omega arith) bytes_nil
calls_bytes (garbled n) r = bytes_nil

pub read_readable : ReadIsReadable
unfolding readable call_number
read_readable bs y s = go (read_call bs) refl
  where
    called : is_call (read_call bs) ≡ true → readable (read_call bs) ≡ true
    called c = (only_calls bs y c).0

    go : (c : Call) → read_call bs ≡ c → readable (read_call bs) ≡ true
    go (find d n) e = called (ap is_call e)
    go (make_file d n) e = called (ap is_call e)
    go (make_dir d n) e = called (ap is_call e)
    go (remove d n) e = called (ap is_call e)
    go (rename d n d2 m) e = called (ap is_call e)
    go (list d k) e = called (ap is_call e)
    go (size i) e = called (ap is_call e)
    go (read i o) e = called (ap is_call e)
    go (write i o b) e = called (ap is_call e)
    go (resize i n) e = called (ap is_call e)
    go (sync_file i) e = called (ap is_call e)
    go sync_tree e = called (ap is_call e)
    go (garbled n) e =
        let l = (longest_front bs n y e).0 in
        let h : length bs < 18446744073709551616 = ltb-true _ _ s in
        subst (λ c. readable c ≡ true) (sym e) (lt-ltb n 18446744073709551616 (omega arith))
