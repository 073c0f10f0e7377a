-- Twice round the circle is no sum that wraps.
use Rattle.std.proofs.Common.{arith}
use Rattle.reused.proofs.Soundness.{sizes_of_lem}
use Rattle.reused.proofs.circle.Circle.is_in_arc.Goals as goal

pub overflow_add-end : goal.overflow_add-end
overflow_add-end c = record { fits = omega (arith, (sizes_of_lem _ _ c.args.self.in_range).high) }

pub overflow_add-round : goal.overflow_add-round
overflow_add-round c = record { fits = omega (arith, (sizes_of_lem _ _ c.args.self.in_range).high) }
