-- The worked afternoon: every line of its table, and what power may leave at its end, by computation. The file systems on the
-- way are written out, so that each call is worked out from one that is known.
use Rattle.std.proofs.Common.{◌≡◌, ℕ, List, [], ◌∷◌, length, sym, refl, subst}
use Rattle.model.specs.Tree.{Name, same, Entry, Body, Node, Tree, new_tree, some_of, first_of, find_node, is_dir, is_file, entries, cells}
use Rattle.model.specs.Tree.{find_name, all_cells, without_name, without_node, with_body, without_any, holds, any_holds, dir, file}
use Rattle.model.specs.Calls.{place, empty_block, Call, Answer, call_number, good_fields, refused, number}
use Rattle.model.specs.Refusals.{Limits, removing, in_place, renaming, refusal_by}
use Rattle.model.specs.Fs.{Cell, Fs, new_fs, empty_cell, is_in, cells_of, each_once, held, numbers, changed, reply, answer, after, chosen}
use Rattle.model.specs.Fs.{lost}
use Rattle.laws.specs.Afternoon.{a, d, e, t, six, ones, twos, threes, Line, table, Goes, Left, Afternoon, line, ends, goes_on}

-- how a node is written
abbrev at : ℕ → Body → Node
at i b = record { id = i; body = b }

abbrev to : Name → ℕ → Entry
to n i = record { name = n; id = i }

abbrev tree1 : Tree
tree1 = record { nodes = at 0 (dir (to a 1 ∷ [])) ∷ at 1 (file []) ∷ []; next = 2 }

abbrev tree2 : Tree
tree2 = record { nodes = at 0 (dir (to a 1 ∷ [])) ∷ at 1 (file (0 ∷ 1 ∷ [])) ∷ []; next = 2 }

abbrev tree3 : Tree
tree3 = record { nodes = at 0 (dir (to a 1 ∷ to d 2 ∷ [])) ∷ at 1 (file (0 ∷ 1 ∷ [])) ∷ at 2 (dir []) ∷ []; next = 3 }

abbrev tree4 : Tree
tree4 =
    record {
      nodes = at 0 (dir (to a 1 ∷ to d 2 ∷ [])) ∷ at 1 (file (0 ∷ 1 ∷ [])) ∷ at 2 (dir (to t 3 ∷ [])) ∷
          at 3 (file []) ∷ [];
      next = 4;
    }

abbrev tree5 : Tree
tree5 =
    record {
      nodes = at 0 (dir (to a 1 ∷ to d 2 ∷ [])) ∷ at 1 (file (0 ∷ 1 ∷ [])) ∷ at 2 (dir (to t 3 ∷ [])) ∷
          at 3 (file (2 ∷ 3 ∷ [])) ∷ [];
      next = 4;
    }

abbrev tree6 : Tree
tree6 = record { nodes = at 0 (dir (to d 2 ∷ to a 3 ∷ [])) ∷ at 2 (dir []) ∷ at 3 (file (2 ∷ 3 ∷ [])) ∷ []; next = 4 }

abbrev tree7 : Tree
tree7 = record { nodes = at 0 (dir (to d 2 ∷ to a 3 ∷ [])) ∷ at 2 (dir []) ∷ at 3 (file (2 ∷ 3 ∷ 4 ∷ 5 ∷ 6 ∷ [])) ∷ []; next = 4 }

abbrev tree8 : Tree
tree8 = record { nodes = at 0 (dir (to a 3 ∷ [])) ∷ at 3 (file (2 ∷ 3 ∷ 4 ∷ 5 ∷ 6 ∷ [])) ∷ []; next = 4 }

abbrev cells1 : List Cell
cells1 = empty_cell ∷ empty_cell ∷ []

abbrev cells2 : List Cell
cells2 = record { now = ones; maybe = empty_block ∷ [] } ∷ empty_cell ∷ []

abbrev cells3 : List Cell
cells3 = record { now = ones; maybe = empty_block ∷ [] } ∷ empty_cell ∷ empty_cell ∷ empty_cell ∷ []

abbrev cells4 : List Cell
cells4 =
    record { now = ones; maybe = empty_block ∷ [] } ∷ empty_cell ∷ empty_cell ∷ empty_cell ∷ empty_cell ∷ empty_cell ∷ empty_cell ∷ []

abbrev cells5 : List Cell
cells5 =
    record { now = ones; maybe = empty_block ∷ [] } ∷ empty_cell ∷ record {
      now = twos;
      maybe =
          (empty_block ∷ []);
    } ∷ empty_cell ∷ empty_cell ∷ empty_cell ∷ empty_cell ∷ []

abbrev cells6 : List Cell
cells6 =
    record { now = ones; maybe = empty_block ∷ [] } ∷ empty_cell ∷ record {
      now = threes;
      maybe =
          (twos ∷ empty_block ∷ []);
    } ∷ empty_cell ∷ empty_cell ∷ empty_cell ∷ empty_cell ∷ []

abbrev fs1 : Fs
fs1 = record { tree = tree1; older = new_tree ∷ []; cells = [] }

abbrev fs2 : Fs
fs2 = record { tree = tree2; older = tree1 ∷ new_tree ∷ []; cells = cells1 }

abbrev fs3 : Fs
fs3 = record { tree = tree2; older = tree1 ∷ new_tree ∷ []; cells = cells2 }

abbrev fs4 : Fs
fs4 = record { tree = tree2; older = []; cells = cells2 }

abbrev fs5 : Fs
fs5 = record { tree = tree3; older = tree2 ∷ []; cells = cells2 }

abbrev fs6 : Fs
fs6 = record { tree = tree4; older = tree3 ∷ tree2 ∷ []; cells = cells2 }

abbrev fs7 : Fs
fs7 = record { tree = tree5; older = tree4 ∷ tree3 ∷ tree2 ∷ []; cells = cells3 }

abbrev fs8 : Fs
fs8 = record { tree = tree5; older = []; cells = cells3 }

abbrev fs9 : Fs
fs9 = record { tree = tree6; older = tree5 ∷ []; cells = cells3 }

abbrev fs10 : Fs
fs10 = record { tree = tree6; older = []; cells = cells3 }

abbrev fs11 : Fs
fs11 = record { tree = tree7; older = tree6 ∷ []; cells = cells4 }

abbrev fs12 : Fs
fs12 = record { tree = tree8; older = tree7 ∷ tree6 ∷ []; cells = cells4 }

abbrev fs13 : Fs
fs13 = record { tree = tree8; older = tree7 ∷ tree6 ∷ []; cells = cells5 }

abbrev fs14 : Fs
fs14 = record { tree = tree8; older = tree7 ∷ tree6 ∷ []; cells = cells6 }

-- one line, to a file system that is known
goes : {l : Limits} {s end : Fs} {c : Call} {says : Answer} {cells older : ℕ} {xs : List Line} (t : Fs) → after l s c ≡ t →
    answer l s c ≡ says → held t ≡ cells → length t.older ≡ older → Goes l t xs end → Goes l s (line c says cells older ∷ xs) end
goes {l} {end = end} {cells = cells} {older = older} {xs = xs} t e p q r g =
    goes_on p (subst (λ u. held u ≡ cells) (sym e) q) (subst (λ (u : Fs). length u.older ≡ older) (sym e) r)
    (subst (λ u. Goes l u xs end) (sym e) g)

all_lines : Goes six new_fs table fs14
unfolding changed reply refusal_by removing in_place renaming holds any_holds find_node find_name entries cells is_dir is_file some_of
    first_of same without_name without_node with_body without_any all_cells cells_of each_once is_in numbers call_number good_fields place
all_lines =
    goes fs1 refl refl refl refl (goes fs1 refl refl refl refl (goes fs2 refl refl refl refl (goes fs3 refl refl refl refl (
    goes fs3 refl refl refl refl (goes fs3 refl refl refl refl (goes fs3 refl refl refl refl (goes fs4 refl refl refl refl (
    goes fs5 refl refl refl refl (goes fs6 refl refl refl refl (goes fs7 refl refl refl refl (goes fs7 refl refl refl refl (
    goes fs8 refl refl refl refl (goes fs8 refl refl refl refl (goes fs8 refl refl refl refl (goes fs8 refl refl refl refl (
    goes fs9 refl refl refl refl (goes fs9 refl refl refl refl (goes fs9 refl refl refl refl (goes fs9 refl refl refl refl (
    goes fs10 refl refl refl refl (goes fs11 refl refl refl refl (goes fs11 refl refl refl refl (goes fs11 refl refl refl refl (
    goes fs11 refl refl refl refl (goes fs11 refl refl refl refl (goes fs12 refl refl refl refl (goes fs13 refl refl refl refl (
    goes fs14 refl refl refl refl ends))))))))))))))))))))))))))))

-- and what power may leave
left : (g : ℕ → ℕ) → Left g (refused 5 0) 5 (lost 0 g fs14) × Left g (number 2) 5 (lost 1 g fs14) × Left g (number 2) 2 (lost 2 g fs14)
unfolding chosen reply refusal_by find_node find_name entries cells is_dir is_file some_of first_of same call_number good_fields place
left g = ((refl, refl, refl), (refl, refl, refl), (refl, refl, refl))

pub afternoon : Afternoon
unfolding Afternoon
afternoon = (fs14, all_lines, λ g. ((left g).0, (left g).1, (left g).2, λ n. refl))
