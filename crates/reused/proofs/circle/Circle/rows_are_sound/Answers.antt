-- The rows below N are the front of the 16.
use Rattle.std.proofs.Common.{arith}
use Rattle.std.proofs.lemmas.Grind.{common_steps}
use Rattle.reused.proofs.Soundness.{sizes_of_lem}
use Rattle.reused.proofs.circle.Circle.rows_are_sound.Goals as goal

pub slice_bounds-rows-end : goal.slice_bounds-rows-end
slice_bounds-rows-end c = omega (arith, (sizes_of_lem _ _ c.args.self.in_range).few)

pub slice_bounds-iter-end : goal.slice_bounds-iter-end
slice_bounds-iter-end c =
    let few = (sizes_of_lem _ _ c.args.self.in_range).few in
    grind (arith, common_steps)
