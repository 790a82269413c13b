-- Index.
--   counting       Distinct (different numbers of a list), Totals (sums over nodes), Entries (sums over entries)
--   steps          Refused (what is refused and what is not; law 8), Changes and Steps (what a call does to a tree and to the
--                  file system, as views), Each (of each tree)
--   trees          Sound (named once), Gaps (a directory changed), Renamed (one node in place of another), Names (what changes
--                  keep sound), Paths (from node to node), Depth (one depth each), InItself (the test misses nothing), Reach (all
--                  are reached)
--   cells          Places (a cell for each place), Owned (the cell of one place, through steps), Blocks (what a cell may have)
--   laws           Lawfuls (1, 2, 10, 16), Apart (3), Room and Held (4), Kept (5, 6), Copied (7), Reading (9), Below (11),
--                  SameKind (12), Resizing (13), SyncLasts (14), FileLasts (15)
--   an example     Worked (the afternoon)
pub mod Distinct
pub mod Totals
pub mod Entries
pub mod Refused
pub mod Changes
pub mod Steps
pub mod Each
pub mod Sound
pub mod Gaps
pub mod Room
pub mod Held
pub mod Apart
pub mod Names
pub mod Places
pub mod Paths
pub mod Depth
pub mod InItself
pub mod Reach
pub mod Below
pub mod Lawfuls
mod Kept
mod Renamed
mod Copied
mod Reading
mod SameKind
mod Resizing
mod SyncLasts
mod Owned
mod Blocks
mod FileLasts
mod Worked
