-- The length is small, so the C number fits.
use Rattle.std.proofs.Common.{arith}
use Rattle.writer.proofs.Answers.{written_low}
use Rattle.reefcapstan.proofs.reefcapstan_write.Goals as goal

pub overflow_mul-result : goal.overflow_mul-result
overflow_mul-result c =
    let low = written_low c.args.text.now c.args.out.now in
    let small = rw (← c.in-Ok.ensures.0) at low in
    omega (arith, small.1)
