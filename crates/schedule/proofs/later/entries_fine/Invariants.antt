-- So far the flag says whether the entries passed are fine.
use Rattle.std.proofs.Common.{◌≡◌}
use Rattle.schedule.specs.File.{entries_fine}
use Rattle.schedule.proofs.later.entries_fine.Given as goal

abbrev pub invariant-loop-e : goal.invariant-loop-e
invariant-loop-e l = l.fine ≡ entries_fine l.b l.e-index
