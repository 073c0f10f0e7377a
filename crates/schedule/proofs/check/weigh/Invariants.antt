-- So far the sum is that over the places passed. Each summand is at most 510 times 255, so the sum fits.
use Rattle.std.proofs.Common.{◌≡◌, ◌*◌, ◌≤◌}
use Rattle.schedule.specs.File.{weighed}
use Rattle.schedule.proofs.check.weigh.Given as goal

abbrev pub invariant-loop-i : goal.invariant-loop-i
invariant-loop-i l = record {
  bounded : l.sum ≤ 130050 * l.i;
  sum : l.sum ≡ weighed l.b l.i;
}
