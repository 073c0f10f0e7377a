-- The first line outside the form, or the rest of the refusals.
use Rattle.std.proofs.Common.{◌∙◌}
use Rattle.reused_text.proofs.Texts.{scanned_form, scanned_judged}
use Rattle.reused_text.proofs.scan.scan.Goals as goal

pub returns-in-Ok : goal.returns-in-Ok
returns-in-Ok c = c.judge.ensures ∙ scanned_judged c.args.text.now c.in-Ok.read c.in-Ok.ensures

pub returns-in-Err : goal.returns-in-Err
returns-in-Err c = scanned_form c.args.text.now c.in-Err.line c.in-Err.ensures
