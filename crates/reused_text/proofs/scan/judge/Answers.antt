-- The sizes, and then how many entries there are.
use Rattle.std.proofs.Common.{sym}
use Rattle.std.proofs.lemmas.Result.{err_from_is_err_and}
use Rattle.reused_text.proofs.Texts.{judged_out, judged_many, judged_few}
use Rattle.reused_text.proofs.scan.judge.Goals as goal

pub returns-in_err-check_sizes : goal.returns-in_err-check_sizes
returns-in_err-check_sizes c =
    let read = c.args.read in
    let p = err_from_is_err_and c.from_residual.result c.from_residual.ensures.1 in
    rw (p.1, p.2) (judged_out read.opening read.from read.entries c.in_err-check_sizes.field-0.0 c.in_err-check_sizes.ensures)

pub returns-then-read-gt-MOST_ENTRIES : goal.returns-then-read-gt-MOST_ENTRIES
returns-then-read-gt-MOST_ENTRIES c =
    let read = c.args.read in
    rw c.from.ensures (judged_many read.opening read.from read.entries (sym c.in_ok-check_sizes.ensures) c.if-read-gt-MOST_ENTRIES.true)

pub returns : goal.returns
returns c =
    let read = c.args.read in
    judged_few read.opening read.from read.entries (sym c.in_ok-check_sizes.ensures) c.if-read-gt-MOST_ENTRIES.false
