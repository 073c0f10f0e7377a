-- The entries counted are those of the blocks passed, and what the definition says from block 1 on it still says from the next block on.
use Rattle.std.proofs.Common.{◌≡◌, ◌+◌, ◌-◌, ◌*◌, ◌≤◌, length}
use Rattle.schedule.specs.File.{blocks_after, entries_to, file_entries, in_turn}
use Rattle.schedule.specs.Told.{accepted_from}
use Rattle.schedule.proofs.file.read_later.Given as goal

abbrev pub invariant-loop-i : goal.invariant-loop-i
invariant-loop-i l = record {
  bounded : l.entries ≤ 42 * l.i;
  counted : l.entries ≡ length (entries_to l.file l.i);
  turn : in_turn l.file 1 (blocks_after l.file) (accepted_from l.start (length (file_entries l.file)))
      ≡ in_turn l.file (l.i + 1) (blocks_after l.file - l.i) (accepted_from l.start (length (file_entries l.file)));
}
