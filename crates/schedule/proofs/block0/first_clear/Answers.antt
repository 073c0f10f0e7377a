use Rattle.std.proofs.Common.{arith}
use Rattle.schedule.proofs.Laws.{zeros_part}
use Rattle.schedule.proofs.block0.first_clear.Goals as goal

pub returns-then-b-eq0 : goal.returns-then-b-eq0
returns-then-b-eq0 c = rw (c.clear.ensures, zeros_part c.args.b.now 18 492 (omega arith), c.if-b-eq0.true)
