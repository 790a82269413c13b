-- A stage that can do no call answers each as the model does.
use Rattle.std.proofs.Common.{refl}
use Rattle.model.specs.Calls.{find, make_file, make_dir, remove, rename, list, size, read, write, resize, sync_file}
use Rattle.model.specs.Calls.{sync_tree, garbled, call_number, place}
use Rattle.player.specs.Played.{AsTheModel}

pub as_the_model : AsTheModel
unfolding call_number place
as_the_model l s (find d n) h = rw (h 0)
as_the_model l s (make_file d n) h = rw (h 1)
as_the_model l s (make_dir d n) h = rw (h 2)
as_the_model l s (remove d n) h = rw (h 3)
as_the_model l s (rename d n e m) h = rw (h 4)
as_the_model l s (list d k) h = rw (h 5)
as_the_model l s (size i) h = rw (h 6)
as_the_model l s (read i o) h = rw (h 7)
as_the_model l s (write i o b) h = rw (h 8)
as_the_model l s (resize i n) h = rw (h 9)
as_the_model l s (sync_file i) h = rw (h 10)
as_the_model l s sync_tree h = rw (h 11)
as_the_model l s (garbled n) h = refl
