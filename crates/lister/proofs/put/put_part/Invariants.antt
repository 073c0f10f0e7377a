-- The lines so far have been taken.
use Rattle.schedule.specs.Direct.{part_entries}
use Rattle.writer.specs.Made.{entry_lines}
use Rattle.lister.proofs.put.put_part.Given as goal

abbrev pub invariant-loop-j : goal.invariant-loop-j
invariant-loop-j g l = g.T.Taker.takes l.initial.to (entry_lines (part_entries l.part l.j)) l.to
