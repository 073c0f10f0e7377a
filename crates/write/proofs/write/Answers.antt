use Rattle.std.proofs.Common.{sym, length-take-le}
use Rattle.writer.proofs.Answers.{written_within}
use Rattle.write.proofs.write.Goals as goal

-- a written file stands in the lent part
pub slice_bounds-file-end : goal.slice_bounds-file-end
slice_bounds-file-end g c = rw c.write_text.auto.out (written_within _ _ _ c.in-Ok.ensures.0)

pub slice_bounds-write_all-end : goal.slice_bounds-write_all-end
slice_bounds-write_all-end g c = sym (length-take-le _ _ (rw c.write_text.auto.out (written_within _ _ _ c.in-Ok.ensures.0)))
