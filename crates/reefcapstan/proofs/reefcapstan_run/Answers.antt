-- Block and place are small, so the C number fits.
use Rattle.std.specs.Prelude.{Err}
use Rattle.bench.specs.Told.{ran_from}
use Rattle.reefcapstan.proofs.Numbers.{RanLow, ran_low}
use Rattle.reefcapstan.proofs.reefcapstan_run.Goals as goal

pub refusal-requires : goal.refusal-requires
refusal-requires c =
    let whole : RanLow (ran_from c.run.result.refused c.run.result.state) = rw c.run.ensures.0 (ran_low c.args.file.now c.args.log.now) in
    let low : RanLow (ran_from (Err c.in-Err.e) c.run.result.state) = rw c.in-Err.is at whole in
    (low.block, low.place)
