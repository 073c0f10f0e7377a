use Rattle.std.proofs.KnownBytes.{Appends-nil}
use Rattle.text.specs.Lines.{lines_from}
use Rattle.filter.proofs.Shown.{line_shown}
use Rattle.filter.proofs.output.write_lines.Goals as goal

pub loop-place-init : goal.loop-place-init
unfolding lines_from
loop-place-init g c = Appends-nil _

pub loop-place-preserved : goal.loop-place-preserved
loop-place-preserved g c = line_shown _ _ _ _ _ c.loop-place.invariant c.in_ok-write_entry.ensures
