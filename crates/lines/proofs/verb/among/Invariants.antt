use Rattle.std.proofs.Common.{◌≡◌, ◌≤◌, length, drop}
use Rattle.lines.specs.Verbs.{verb_among}
use Rattle.lines.proofs.verb.among.Given as goal

abbrev pub invariant-loop-verb : goal.invariant-loop-verb
invariant-loop-verb l =
    (l.best ≤ length l.line) × (verb_among l.best (drop l.verb-index l.verbs) l.line ≡ verb_among 0 l.verbs l.line)
