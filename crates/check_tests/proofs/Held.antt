-- The tables of the small tree hold it, and it fits.
use Rattle.std.proofs.Common.{◌≡◌, ℕ, ◌<◌, Bool, true, false, eqb, [], ◌∷◌, sym, refl, ◌∙◌, arith, lit≤}
use Rattle.std.proofs.lemmas.Bool.{eqb-true, false≢true}
use Rattle.model.specs.Tree.{all_cells, entries, cells}
use Rattle.model.specs.Calls.{bytes}
use Rattle.model.specs.Fs.{is_in}
use Rattle.model.specs.Laws.{cell_twice}
use Rattle.machine.specs.State.{entry_count}
use Rattle.machine.specs.Fits.{Fits, every, rising}
use Rattle.tables.specs.Stands.{tables_of}
use Rattle.lookup.specs.Views.{Sound}
use Rattle.check_tests.specs.Board.{small_tree, limits}

in-room : (x : ℕ) (a b : Bool) → eqb x 3 ≡ a → eqb x 5 ≡ b → is_in x (3 ∷ 5 ∷ []) ≡ true → x < 6
unfolding is_in
in-room x true b e f h = omega (arith, eqb-true x 3 e)
in-room x false true e f h = omega (arith, eqb-true x 5 f)
in-room x false false e f h = let q : is_in x (3 ∷ 5 ∷ []) ≡ false = rw e (rw f) in absurd (false≢true (sym q ∙ h))

pub small_fits : Fits limits small_tree
unfolding every bytes rising all_cells entries cells entry_count cell_twice is_in
small_fits = record {
  few = lit≤ tt;
  small = lit≤ tt;
  ok = refl;
  ascend = refl;
  named_few = lit≤ tt;
  apart = refl;
  inside = λ x h. in-room x (eqb x 3) (eqb x 5) refl refl h;
}

pub small_sound : Sound limits (tables_of 4 6 small_tree) small_tree
unfolding all_cells entries cells entry_count
small_sound = record {
  holds = record {
    nodes = refl;
    sums = refl;
    entries = refl;
    cells = refl;
    next_id = refl;
    nodes_used = refl;
    entries_used = refl;
    cells_used = refl;
    nodes_fit = lit≤ tt;
    entries_fit = lit≤ tt;
    cells_fit = lit≤ tt;
  };
  fits = small_fits;
}
