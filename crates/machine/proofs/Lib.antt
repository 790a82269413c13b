-- Index. From lists up to the promises:
--   Lists, Disks            places in lists; what blocks have after acts, keeps and losses of power
--   Renaming, Counting      cells by other numbers; bits of held blocks
--   Changes, Fits           what a call does by its kind; trees that the layout can carry stay so
--   JournalCalls, Replay    calls in a journal; doing it again
--   Invariant               how memory and the disk stand for a file system
--   Frames, Power           what acts leave alone, a new disk; what a loss of power leaves
--   Writes, Sync, Push      the calls, by kind
--   Histories, Calls        induction over everything that can happen; the promises, for any encoding
--   Tables, JournalWords, LayoutLaws    the layout is such an encoding
--   Quiet, Cost             what does nothing; acts counted
--   Whole, Always           blocks of the disk stay whole; what holds whenever nothing is under way
pub mod Lists
pub mod Disks
pub mod Renaming
pub mod Counting
pub mod Changes
pub mod Fits
pub mod JournalCalls
pub mod Replay
pub mod Invariant
pub mod Frames
pub mod Power
pub mod Writes
pub mod Sync
pub mod Push
pub mod Histories
pub mod Calls
pub mod Tables
pub mod JournalWords
pub mod LayoutLaws
pub mod Quiet
pub mod Cost
pub mod Whole
pub mod Always
