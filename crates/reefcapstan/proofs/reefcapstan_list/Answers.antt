-- Block, place and length are small, so the C number fits.
use Rattle.std.proofs.Common.{arith}
use Rattle.std.specs.Prelude.{Ok, Err}
use Rattle.lister.specs.Told.{listed_as}
use Rattle.lister.proofs.Answers.{ListedLow, listed_low}
use Rattle.reefcapstan.proofs.reefcapstan_list.Goals as goal

pub overflow_mul-result : goal.overflow_mul-result
overflow_mul-result c =
    let low : ListedLow (listed_as (Ok c.in-Ok.bytes)) = rw c.in-Ok.ensures.0 (listed_low c.args.file.now c.args.out.now) in
    omega (arith, low.length)

pub refusal-requires : goal.refusal-requires
refusal-requires c =
    let low : ListedLow (listed_as (Err c.in-Err.e)) = rw c.in-Err.ensures.0 (listed_low c.args.file.now c.args.out.now) in
    (low.block, low.place)
