-- With no space there is no S, and with one alone no V.
use Rattle.std.proofs.Common.{sym, ◌∙◌}
use Rattle.text.specs.Lines.{space}
use Rattle.writer.proofs.Fields.{behind_none, behind_nothing, fields_short}
use Rattle.writer.proofs.form.read_fields.Goals as goal

pub returns-in_err-n : goal.returns-in_err-n
returns-in_err-n c =
    let rest = c.args.rest.now in
    let none = behind_none space rest c.in_err-n.ensures.1 in
    c.from_residual.ensures ∙ sym (fields_short rest (rw none (behind_nothing space)))

pub returns-in_err-s : goal.returns-in_err-s
returns-in_err-s c =
    let rest = c.args.rest.now in
    let none = behind_none space c.in_ok-n.rest.now c.in_err-s.ensures.1 in
    c.from_residual-in_err-s.ensures ∙ sym (fields_short rest (rw (← c.in_ok-n.ensures.2.2) none))
