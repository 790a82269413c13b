use Rattle.std.proofs.Common.{◌≡◌, Ok, Err, Result, sym, ◌∙◌}
use Rattle.model.specs.Tree.{all_cells, entries, cells}
use Rattle.machine.specs.State.{entry_count}
use Rattle.std.proofs.Common.{ℕ, ap}
use Rattle.std.specs.Result.{result_err}
use Rattle.model.specs.Tree.{Tree}
use Rattle.model.specs.Calls.{Call}
use Rattle.model.specs.Refusals.{Limits, refusal}
use Rattle.calls.specs.declared.Refusal.{Refusal}
use Rattle.calls.specs.Meaning.{call_of}
use Rattle.tables.specs.Edits.{Tables}
use Rattle.tables.specs.Stands.{tables_of}
use Rattle.steps.specs.declared.step.Step.{Step}
use Rattle.steps.specs.Steps.{TellsAll}
use Rattle.check_tests.specs.Board.{small_tree, limits, reason_number}
use Rattle.check_tests.proofs.Held.{small_sound}
use Rattle.check_tests.proofs.board.reason.Goals as goal

pub invariant_of-state : goal.invariant_of-state
unfolding all_cells entries cells entry_count
invariant_of-state c = record { sound = ∣ (limits, (small_tree, small_sound)) ∣₁ }

pub check-requires-clause-tree : goal.check-requires-clause-tree
unfolding all_cells entries cells entry_count
check-requires-clause-tree c = (small_tree, small_sound)

told : (l : Limits) (T : Tables) (t : Tree) (older held : ℕ) (c : Call) (r : Result Step Refusal) →
    TellsAll l T t older held c r → reason_number (result_err r) ≡ refusal l t older held c
told l T t older held c (Ok s) x = sym x.0
told l T t older held c (Err e) x = sym x

pub returns : goal.returns
unfolding all_cells entries cells entry_count
returns c =
    ap reason_number c.err.ensures.value
    ∙ told limits (tables_of 4 6 small_tree) small_tree c.args.older c.args.held (call_of c.args.call) c.check.result
    (c.check.ensures small_tree small_sound)
