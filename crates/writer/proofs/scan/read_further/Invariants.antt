-- So many lines were in the form: what all come to, the rest comes to behind them.
use Rattle.std.proofs.Common.{◌≡◌, ◌+◌, ◌≤◌, length}
use Rattle.writer.specs.Parts.{lines_in, over_lines_by}
use Rattle.writer.proofs.scan.read_further.Given as goal

abbrev pub invariant-loop-line : goal.invariant-loop-line
invariant-loop-line g l = record {
  few : l.entries + length l.rest ≤ length l.lines;
  same : over_lines_by g.F.TextForm.fine 2 0 (lines_in l.lines) ≡ over_lines_by g.F.TextForm.fine (l.entries + 2) l.entries (lines_in l.rest);
}

abbrev pub decreases-loop-line : goal.decreases-loop-line
decreases-loop-line g l = length l.rest
