-- N is small, and an interval shorter than the circle.
use Rattle.reused.proofs.Soundness.{sizes_of_lem, interval_below}
use Rattle.reused.proofs.circle.Circle.interval.Goals as goal

pub interval_of-requires : goal.interval_of-requires
interval_of-requires c = (sizes_of_lem _ _ c.args.self.in_range).few

pub returns : goal.returns
returns c = (c.interval_of.ensures, rw c.interval_of.ensures (interval_below (sizes_of_lem _ _ c.args.self.in_range)))
