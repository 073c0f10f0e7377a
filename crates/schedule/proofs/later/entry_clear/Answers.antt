-- A number that is read is zero where its bytes are.
use Rattle.schedule.proofs.Laws.{number_zero}
use Rattle.schedule.proofs.later.entry_clear.Goals as goal

pub returns : goal.returns
returns c =
    let e = c.args.e.now in
    rw (c.two.ensures, c.eight.ensures, number_zero e 2 2, number_zero e 4 8)
