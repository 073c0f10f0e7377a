-- A sound state's process reaches only rows and records that are there.
use Rattle.std.proofs.Common.{sym, ◌∙◌}
use Rattle.machine.proofs.Soundness.{within_sixteen}
use Rattle.machine.proofs.State.call.Goals as goal

pub enter-requires : goal.enter-requires
enter-requires c = within_sixteen c.args.self c.args.p c.args.kind (sym c.is_sound.ensures ∙ c.if-not-is_sound.false) c.if-p-self.false
