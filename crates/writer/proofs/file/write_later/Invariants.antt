-- What is left of the blocks leaves the part as all of them would. After so many blocks: the lines and entries that are left, and the part
-- that their blocks will leave.
use Rattle.std.proofs.Common.{◌≡◌, ◌+◌, ◌-◌, ◌*◌, length}
use Rattle.std.proofs.lemmas.List.Edits.{sets}
use Rattle.writer.specs.Form.{line_fine}
use Rattle.writer.specs.Made.{packed}
use Rattle.writer.specs.Parts.{InForm, entries_left}
use Rattle.writer.proofs.file.write_later.Given as goal

abbrev pub invariant-loop-k : goal.invariant-loop-k
invariant-loop-k l = record {
  form : InForm line_fine l.behind;
  count : l.left ≡ length (entries_left l.behind);
  long : length l.rest ≡ length l.initial.rest;
  same : sets l.initial.rest 0 (packed l.k-end 1 (entries_left l.lines))
      ≡ sets l.rest (512 * l.k) (packed (l.k-end - l.k) (l.k + 1) (entries_left l.behind));
}
