-- The same slices after one call and after another.
use Rattle.std.proofs.Common.{◌∙◌}
use Rattle.memory.specs.declared.newest.Tables.{Tables}
use Rattle.memory.specs.declared.status.Status.{Status}
use Rattle.memory.specs.Lent.{SameTables, SameStatus}

pub same_tables : {a b c : Tables} → SameTables a b → SameTables b c → SameTables a c
same_tables s t = record {
  nodes = t.nodes ∙ s.nodes;
  sums = t.sums ∙ s.sums;
  entries = t.entries ∙ s.entries;
  cells = t.cells ∙ s.cells;
}

pub same_status : {a b c : Status} → SameStatus a b → SameStatus b c → SameStatus a c
same_status s t = record {
  head = t.head ∙ s.head;
  superblock = t.superblock ∙ s.superblock;
  held = t.held ∙ s.held;
  fresh = t.fresh ∙ s.fresh;
  own = t.own ∙ s.own;
}
