-- What is printed of a line that cannot be played. Definitions only.
use Rattle.std.specs.Prelude.{ℕ, List, codes}
use Rattle.player.specs.declared.Trouble.{Trouble}
use Rattle.player.specs.declared.Trouble.TheVariants.{Column, NoMemory, NoLimits, LimitsAgain, LimitsRange}
use Rattle.script.specs.declared.line.Unreadable.TheVariants as unread
use Rattle.script.specs.Messages.{unreadable_text}

abbrev pub trouble_text : Trouble → List ℕ
trouble_text (Column k) = unreadable_text (unread.Column k)
trouble_text NoMemory = unreadable_text unread.NoMemory
trouble_text NoLimits = codes "a script begins with its limits"
trouble_text LimitsAgain = codes "a script has limits only once"
trouble_text LimitsRange = codes "limits are 0 to 64 cells, 1 to 64 nodes and 1 to 16 older trees"
