-- A letter and a space, and then by the letter.
use Rattle.std.proofs.Common.{arith, sym, ◌∙◌}
use Rattle.writer.proofs.Asks.{gap_none, letter_none}
use Rattle.writer.proofs.Fields.{load_line, store_line, check_line, step_line}
use Rattle.writer.proofs.form.read_line.Goals as goal

pub returns-in_err-letter : goal.returns-in_err-letter
returns-in_err-letter c = c.from_residual.ensures ∙ sym (gap_none c.args.line.now c.in_err-letter.ensures.1)

pub returns-in-76 : goal.returns-in-76
returns-in-76 c = rw (c.in_ok-letter.ensures.2, c.in-76.is, load_line c.in_ok-letter.rest.now) c.read_plain.ensures

pub returns-in-83 : goal.returns-in-83
returns-in-83 c = rw (c.in_ok-letter.ensures.2, c.in-83.is, store_line c.in_ok-letter.rest.now) c.read_store.ensures

pub returns-in-86 : goal.returns-in-86
returns-in-86 c = rw (c.in_ok-letter.ensures.2, c.in-86.is, check_line c.in_ok-letter.rest.now) c.read_plain-in-86.ensures

pub returns-in-84 : goal.returns-in-84
returns-in-84 c = rw (c.in_ok-letter.ensures.2, c.in-84.is, step_line c.in_ok-letter.rest.now) c.read_plain-in-84.ensures

pub returns-in_default : goal.returns-in_default
returns-in_default c =
    let e = c.in_ok-letter.ensures.2 in
    rw e (sym (letter_none c.in_ok-letter.letter c.in_ok-letter.rest.now (λ k. omega (arith, k)) (λ k. omega (arith, k)) (λ k. omega (arith, k)) (λ k. omega (arith, k))))
