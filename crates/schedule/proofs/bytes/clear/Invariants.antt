-- So far the sum is zero exactly where the bytes are.
use Rattle.std.proofs.Common.{◌≡◌, ◌*◌, ◌≤◌}
use Rattle.std.specs.Prelude.{eqb}
use Rattle.schedule.specs.File.{zeros_of}
use Rattle.schedule.proofs.bytes.clear.Given as goal

abbrev pub invariant-loop-x : goal.invariant-loop-x
invariant-loop-x l = record {
  bounded : l.sum ≤ 255 * l.x-index;
  zeros : eqb l.sum 0 ≡ zeros_of l.part 0 l.x-index;
}
