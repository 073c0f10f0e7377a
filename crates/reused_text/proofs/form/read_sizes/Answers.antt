-- H and a space, and then the fields.
use Rattle.std.proofs.Common.{sym, ◌∙◌}
use Rattle.reused_text.proofs.Heads.{gap_no_head, letter_no_head, head_line}
use Rattle.reused_text.proofs.form.read_sizes.Goals as goal

pub returns-in_err-letter : goal.returns-in_err-letter
returns-in_err-letter c = c.from_residual.ensures ∙ sym (gap_no_head c.args.line.now c.in_err-letter.ensures.1)

pub returns-then-letter-eq72 : goal.returns-then-letter-eq72
returns-then-letter-eq72 c = rw (c.in_ok-letter.ensures.2, c.if-letter-eq72.true, head_line c.in_ok-letter.rest.now) c.read_fields.ensures

pub returns-else-letter-eq72 : goal.returns-else-letter-eq72
returns-else-letter-eq72 c =
    rw c.in_ok-letter.ensures.2 (sym (letter_no_head c.in_ok-letter.letter c.in_ok-letter.rest.now c.if-letter-eq72.false))
