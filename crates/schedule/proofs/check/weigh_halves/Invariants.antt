-- After i turns the sum is that over the first i places of each half, both with the weights of the first half, and `more` is what the
-- second half's bytes add up to. A product is at most 255 times 255, so it fits.
use Rattle.std.proofs.Common.{◌≡◌, ◌+◌, ◌*◌, ◌≤◌}
use Rattle.schedule.specs.File.{weighed}
use Rattle.schedule.proofs.Halves.{weighed_from, added_from}
use Rattle.schedule.proofs.check.weigh_halves.Given as goal

abbrev pub invariant-loop-i : goal.invariant-loop-i
invariant-loop-i l = record {
  sum : l.sum ≡ weighed l.b l.i + weighed_from l.b 255 l.i;
  more : l.more ≡ added_from l.b 255 l.i;
  weight : l.weight ≡ l.i + 1;
  sum_bound : l.sum ≤ 131070 * l.i;
  more_bound : l.more ≤ 255 * l.i;
}
