-- With no space there is no M.
use Rattle.std.proofs.Common.{sym, ◌∙◌}
use Rattle.text.specs.Lines.{space}
use Rattle.writer.proofs.Fields.{behind_none}
use Rattle.reused_text.proofs.Heads.{fields_short}
use Rattle.reused_text.proofs.form.read_fields.Goals as goal

pub returns-in_err-n : goal.returns-in_err-n
returns-in_err-n c = c.from_residual.ensures ∙ sym (fields_short c.args.rest.now (behind_none space c.args.rest.now c.in_err-n.ensures.1))
