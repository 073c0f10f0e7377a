-- The record is the first twelve bytes behind the head and the records before it.
use Rattle.std.proofs.Common.{arith, drop, ◌+◌, ◌*◌}
use Rattle.std.proofs.lemmas.Grind.{common_steps}
use Rattle.run_log.specs.Found.{note_found}
use Rattle.run_log.proofs.Laws.{note_front}
use Rattle.run_log.proofs.read.read_record.Goals as goal

pub returns : goal.returns
unfolding note_found
returns c = grind (arith, common_steps, note_front (drop (12 + 12 * c.args.i) c.args.log.now))
