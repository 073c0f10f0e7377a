-- The circle has more than one number.
use Rattle.std.proofs.Common.{arith}
use Rattle.reused.proofs.Soundness.{sizes_of_lem, row_of, circle_some}
use Rattle.reused.proofs.turn.Turn.look_on.Goals as goal

pub ahead-tag-requires : goal.ahead-tag-requires
ahead-tag-requires c =
    let t = c.args.self in
    ((row_of _ _ t.parts.own t.own_sound).tag, omega (arith, circle_some (sizes_of_lem _ _ t.circle.in_range)))
