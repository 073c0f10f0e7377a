-- The lines of the entries before the place are written.
use Rattle.std.specs.Io.KnownBytes.{Appends}
use Rattle.text.specs.Lines.{lines_from}
use Rattle.filter.proofs.output.write_lines.Given as goal

abbrev pub invariant-loop-place : goal.invariant-loop-place
invariant-loop-place g l = Appends (g.W.Write.contents l.initial.output) (g.W.Write.contents l.output) (lines_from l.log 0 l.place)
