-- After j entries: the lines that are left, and the block, which is zeros behind its entries.
use Rattle.std.proofs.Common.{◌≡◌, ◌-◌, ◌*◌, ◌++◌, take, drop, replicate}
use Rattle.writer.specs.Form.{line_fine}
use Rattle.writer.specs.Made.{later_front, entries_made}
use Rattle.writer.specs.Parts.{InForm, entries_left}
use Rattle.writer.proofs.block.later_block.Given as goal

abbrev pub invariant-loop-j : goal.invariant-loop-j
invariant-loop-j l = record {
  form : InForm line_fine l.rest;
  left : entries_left l.rest ≡ drop l.j (entries_left l.lines);
  same : l.block ≡ later_front l.k l.c ++ (entries_made (take l.j (entries_left l.lines)) ++ replicate (508 - 12 * l.j) 0);
}
