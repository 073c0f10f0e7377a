use Rattle.std.proofs.Common.{arith, ◌≡◌}
use Rattle.text.proofs.Filling.{filling_start, filling_next, filling_end, filling_short, filling_stop}
use Rattle.text.proofs.page.write_lines_of.Goals as goal

pub loop-next-init : goal.loop-next-init
loop-next-init c = filling_start _ _ _ _

pub returns-then-out-at-lt-ROOM : goal.returns-then-out-at-lt-ROOM
returns-then-out-at-lt-ROOM c = filling_short c.loop-next.invariant c.loop-next-test.true c.if-out-at-lt-ROOM.true

pub loop-next-preserved : goal.loop-next-preserved
loop-next-preserved c =
    filling_next c.loop-next.invariant c.loop-next-test.true c.if-out-at-lt-ROOM.false _ _ c.write_line_of-at.ensures.0
    c.write_line_of-at.ensures.1

pub returns : goal.returns
returns c =
    let last : c.max.result ≡ c.loop-next.next = grind (arith, filling_stop c.loop-next.invariant) in
    rw last (filling_end c.loop-next.invariant c.loop-next-test.false)
