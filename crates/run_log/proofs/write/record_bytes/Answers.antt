-- The library divides by 256 once and by its powers, the document by 256 time after time.
use Rattle.std.proofs.Math.Nat.{div-div-eq-div-mul}
use Rattle.run_log.specs.Log.{record_of}
use Rattle.run_log.proofs.write.record_bytes.Goals as goal

pub returns : goal.returns
unfolding record_of
returns c = rw c.to_le_bytes-v.ensures (simp div-div-eq-div-mul)
