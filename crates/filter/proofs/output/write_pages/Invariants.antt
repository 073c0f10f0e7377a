-- The lines of the entries before the place are written, and each turn writes one at least.
use Rattle.std.proofs.Common.{◌-◌, ◌≤◌}
use Rattle.std.specs.Io.KnownBytes.{Appends}
use Rattle.text.specs.Lines.{lines_from}
use Rattle.filter.proofs.output.write_pages.Given as goal

abbrev pub invariant-loop-place : goal.invariant-loop-place
invariant-loop-place g l =
    (l.place ≤ l.entries) × Appends (g.W.Write.contents l.initial.output) (g.W.Write.contents l.output) (lines_from l.log 0 l.place)

abbrev pub decreases-loop-place : goal.decreases-loop-place
decreases-loop-place g l = l.entries - l.place
