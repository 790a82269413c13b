-- Any call, by its kind and its fields: refused as no call, or as out of range, or by the tables.
use Rattle.std.proofs.Common.{◌≡◌, ℕ, eqb, arith, true, false, Some, None, Ok, Err, Result, ◌∙◌, sym, ap}
use Rattle.model.specs.Tree.{Tree}
use Rattle.model.specs.Calls.{call_number, good_fields}
use Rattle.model.specs.Refusals.{Limits, refusal, refusal_by}
use Rattle.tables.specs.Edits.{Tables}
use Rattle.calls.specs.declared.Call.{Call}
use Rattle.calls.specs.declared.kind.Kind.{Kind}
use Rattle.calls.specs.declared.Refusal.{Refusal}
use Rattle.calls.specs.Kinds.{kind_of, kind_number, number_by}
use Rattle.calls.specs.Meaning.{call_of}
use Rattle.calls.proofs.Numbered.{numbered}
use Rattle.steps.specs.declared.step.Step.{Step}
use Rattle.steps.specs.Steps.{Tells, TellsAll}

-- no kind has the number of bytes that are no call
a_call : (k : Kind) → eqb (kind_number k) 255 ≡ false
a_call k = grind arith

module _ (l : Limits) (T : Tables) (t : Tree) (older held : ℕ) (c : Call) where
  pub no_call : kind_of c ≡ None → refusal l t older held (call_of c) ≡ 1
  no_call e = let n : call_number (call_of c) ≡ 255 = sym (numbered c) ∙ ap number_by e in rw n

  module _ (k : Kind) (e : kind_of c ≡ Some k) where
    number : call_number (call_of c) ≡ kind_number k
    number = sym (numbered c) ∙ ap number_by e

    -- one that cannot be done, or whose fields are out of range
    pub cannot : l.calls_can (kind_number k) ≡ false → refusal l t older held (call_of c) ≡ 2
    cannot f = rw number (rw (a_call k) (rw f))

    module _ (f : l.calls_can (kind_number k) ≡ true) where
      pub out_of_range : good_fields (call_of c) ≡ false → refusal l t older held (call_of c) ≡ 2
      out_of_range g = rw number (rw (a_call k) (rw f (rw g)))

      module _ (g : good_fields (call_of c) ≡ true) where
        whole : refusal l t older held (call_of c) ≡ refusal_by l t older held (call_of c)
        whole = rw number (rw (a_call k) (rw f (rw g)))

        pub tells_all : (r : Result Step Refusal) → Tells l T t older held (call_of c) r → TellsAll l T t older held (call_of c) r
        tells_all (Err e) x = whole ∙ x
        tells_all (Ok s) x = (whole ∙ x.0, x.1)
