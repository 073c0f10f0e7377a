-- The lines of the blocks so far have been taken.
use Rattle.std.proofs.Common.{◌-◌}
use Rattle.schedule.specs.File.{entries_to}
use Rattle.writer.specs.Made.{entry_lines}
use Rattle.lister.proofs.put.put_entries.Given as goal

abbrev pub invariant-loop-k : goal.invariant-loop-k
invariant-loop-k g l = g.T.Taker.takes l.initial.to (entry_lines (entries_to l.file (l.k - 1))) l.to
