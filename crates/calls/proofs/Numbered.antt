-- A call's kind has the number that the model has for the call.
use Rattle.std.proofs.Common.{◌≡◌, refl}
use Rattle.model.specs.Calls.{call_number}
use Rattle.calls.specs.declared.Call.{Call}
use Rattle.calls.specs.declared.Call.TheVariants.{Find, MakeFile, MakeDir, Remove, Rename, List, Size, Read, Write, Resize, SyncFile, SyncTree, Garbled}
use Rattle.calls.specs.Meaning.{call_of}
use Rattle.calls.specs.Kinds.{kind_of, number_by}

pub numbered : (c : Call) → number_by (kind_of c) ≡ call_number (call_of c)
unfolding call_number
numbered (Find d n) = refl
numbered (MakeFile d n) = refl
numbered (MakeDir d n) = refl
numbered (Remove d n) = refl
numbered (Rename d n e m) = refl
numbered (List d k) = refl
numbered (Size i) = refl
numbered (Read i o) = refl
numbered (Write i o b) = refl
numbered (Resize i n) = refl
numbered (SyncFile i) = refl
numbered SyncTree = refl
numbered (Garbled n) = refl
