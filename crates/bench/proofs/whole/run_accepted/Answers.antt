-- The length of the lent log decides between the run and 6.
use Rattle.std.proofs.Common.{arith}
use Rattle.bench.proofs.WholeRun.{few_entries}
use Rattle.bench.proofs.whole.run_accepted.Goals as goal

pub overflow_mul-accepted : goal.overflow_mul-accepted
overflow_mul-accepted c = omega (arith, few_entries c.args.file.now c.args.accepted.start.n c.args.accepted.start.s c.args.accepted.start.v c.args.accepted.entries c.requires)

pub overflow_add-accepted : goal.overflow_add-accepted
overflow_add-accepted c = omega (arith, few_entries c.args.file.now c.args.accepted.start.n c.args.accepted.start.s c.args.accepted.start.v c.args.accepted.entries c.requires)
