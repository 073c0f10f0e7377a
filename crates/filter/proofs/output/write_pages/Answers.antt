use Rattle.std.proofs.Common.{arith}
use Rattle.std.proofs.KnownBytes.{Appends-nil}
use Rattle.text.specs.Lines.{lines_from}
use Rattle.filter.proofs.Shown.{filled_onward, part_shown}
use Rattle.filter.proofs.output.write_pages.Goals as goal

pub loop-place-init : goal.loop-place-init
unfolding lines_from
loop-place-init g c = (omega arith, Appends-nil _)

pub loop-place-smaller : goal.loop-place-smaller
loop-place-smaller g c =
    omega (arith, filled_onward _ _ _ _ _ c.write_lines_of-filled.ensures.0 (omega (arith, c.loop-place-test.array_long)) c.loop-place-test.true)

pub loop-place-preserved : goal.loop-place-preserved
loop-place-preserved g c =
    let filled = c.write_lines_of-filled.ensures in (
      (filled_onward _ _ _ _ _ filled.0 (omega (arith, c.loop-place-test.array_long)) c.loop-place-test.true).1,
      part_shown _ _ _ _ _ _ _ _ _ filled.0 filled.1 c.loop-place.invariant.1 c.in_ok-write_all.ensures.bytes,
    )
