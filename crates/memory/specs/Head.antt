-- THE HEAD AS WORDS. Definitions only.
use Rattle.std.specs.Prelude.{◌≡◌, ℕ, List, [], ◌∷◌, set, ◌==◌, slice_index, slice_set}
use Rattle.machine.specs.Journal.{bit_word}
use Rattle.memory.specs.declared.status.Head.{Head}
use Rattle.memory.specs.declared.status.Status.{Status}

-- the six words of the head that change, from its fifth on, read and written
abbrev pub from_words : List ℕ → Head
from_words ws = record {
  used = record { next = slice_index ws 3; nodes = slice_index ws 0; entries = slice_index ws 1; cells = slice_index ws 2 };
  older = slice_index ws 4;
  over = (slice_index ws 5 == 1);
}

abbrev pub to_words : Head → List ℕ
to_words h = h.used.nodes ∷ h.used.entries ∷ h.used.cells ∷ h.used.next ∷ h.older ∷ bit_word h.over ∷ []

abbrev pub head_from : List ℕ → Head
head_from ws = record {
  used = record { next = slice_index ws 7; nodes = slice_index ws 4; entries = slice_index ws 5; cells = slice_index ws 6 };
  older = slice_index ws 8;
  over = (slice_index ws 9 == 1);
}

-- the mark and the limits stay
abbrev pub head_with : Head → List ℕ → List ℕ
head_with h ws =
    set (slice_set (slice_set (slice_set (slice_set (slice_set ws 4 h.used.nodes) 5 h.used.entries) 6 h.used.cells) 7 h.used.next) 8 h.older) 9
    (bit_word h.over)

-- nothing but the head is changed
pub record OnlyHead (a b : Status) : Type 0 where
  pub superblock : b.superblock.now ≡ a.superblock.now
  pub held : b.held.now ≡ a.held.now
  pub fresh : b.fresh.now ≡ a.fresh.now
  pub own : b.own.now ≡ a.own.now
