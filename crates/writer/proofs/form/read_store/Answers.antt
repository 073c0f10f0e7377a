-- With no space there is no value.
use Rattle.text.specs.Lines.{space}
use Rattle.writer.proofs.Fields.{behind_none, numeral_nothing}
use Rattle.writer.proofs.form.read_store.Goals as goal

pub returns-in_err-process : goal.returns-in_err-process
returns-in_err-process c = rw (behind_none space c.args.rest.now c.in_err-process.ensures.1, numeral_nothing) c.from_residual.ensures
