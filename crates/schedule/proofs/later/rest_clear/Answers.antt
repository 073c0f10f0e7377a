use Rattle.std.proofs.Common.{◌+◌, ◌-◌, ◌*◌, arith}
use Rattle.schedule.proofs.Laws.{zeros_part}
use Rattle.schedule.proofs.later.rest_clear.Goals as goal

pub returns-then-b-eq0 : goal.returns-then-b-eq0
returns-then-b-eq0 c =
    let at = 4 + 12 * c.args.c in
    rw (c.clear.ensures, zeros_part c.args.b.now at (510 - at) (omega arith), c.if-b-eq0.true, c.requires.0)
