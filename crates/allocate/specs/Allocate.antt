-- WHAT IS LEFT after data blocks were taken, given up and settled: words and bits. Definitions only.
use Rattle.std.specs.Prelude.{◌≡◌, ℕ, List, length, replicate}
use borrow.Rule.Slice.PartMut.{put_mid}
use Rattle.blocks.specs.Words.{Words}
use Rattle.blocks.specs.Bits.{bits_of}
use Rattle.machine.specs.State.{free, marked}
use Rattle.tables.specs.Own.{unmarked}
use Rattle.memory.specs.declared.newest.Tables.{Tables}
use Rattle.memory.specs.declared.status.Status.{Status}

-- the first so many data blocks that are not held
abbrev pub lowest_free : ℕ → Status → List ℕ
lowest_free n s = free n (bits_of s.held.now) 0

-- n cells from `at` on have the lowest free data blocks, which are marked in all three maps
pub record Claimed (at n : ℕ) (t u : Tables) (s v : Status) : Type 0 where
  pub nodes : u.nodes.now ≡ t.nodes.now
  pub sums : u.sums.now ≡ t.sums.now
  pub entries : u.entries.now ≡ t.entries.now
  pub cells : u.cells.now ≡ put_mid at n t.cells.now (lowest_free n s)
  pub head : v.head.now ≡ s.head.now
  pub superblock : v.superblock.now ≡ s.superblock.now
  pub held : bits_of v.held.now ≡ marked (lowest_free n s) (bits_of s.held.now)
  pub fresh : bits_of v.fresh.now ≡ marked (lowest_free n s) (bits_of s.fresh.now)
  pub own : bits_of v.own.now ≡ marked (lowest_free n s) (bits_of s.own.now)
  pub words : Words v.held.now × Words v.fresh.now × Words v.own.now
  pub long :
      (length v.held.now ≡ length s.held.now) × (length v.fresh.now ≡ length s.fresh.now)
      × (length v.own.now ≡ length s.own.now)

-- a row of data blocks is not the newest tree's any more
pub record Released (row : List ℕ) (s v : Status) : Type 0 where
  pub head : v.head.now ≡ s.head.now
  pub superblock : v.superblock.now ≡ s.superblock.now
  pub held : v.held.now ≡ s.held.now
  pub fresh : v.fresh.now ≡ s.fresh.now
  pub own : bits_of v.own.now ≡ unmarked row (bits_of s.own.now)
  pub words : Words v.own.now
  pub long : length v.own.now ≡ length s.own.now

-- held is what the newest tree has, and nothing is fresh
pub record Settled (s v : Status) : Type 0 where
  pub head : v.head.now ≡ s.head.now
  pub superblock : v.superblock.now ≡ s.superblock.now
  pub held : v.held.now ≡ s.own.now
  pub fresh : v.fresh.now ≡ replicate (length s.fresh.now) 0
  pub own : v.own.now ≡ s.own.now
