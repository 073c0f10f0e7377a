use Rattle.std.proofs.Common.{rules, sym, subst}
use Rattle.std.specs.Io.KnownBytes.{Consumes}
use Rattle.std.proofs.KnownBytes.{Consumes-trans}
use Rattle.filter.proofs.Filled.{take-filled}
use Rattle.filter.proofs.input.read_full.Goals as goal

pub loop-done-preserved : goal.loop-done-preserved
loop-done-preserved g c = (
  search rules,
  search rules,
  subst (Consumes _ _) (sym (take-filled _ _ _ _ _ c.loop-done.invariant.1 c.in-Ok.ensures.bound.0))
      (Consumes-trans _ _ _ _ _ c.loop-done.invariant.2 c.in-Ok.ensures.bytes.0),
)
