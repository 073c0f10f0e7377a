-- Twice round the circle is no sum that wraps.
use Rattle.std.proofs.Common.{arith}
use Rattle.reused.proofs.Soundness.{sizes_of_lem}
use Rattle.reused.proofs.circle.Circle.ahead.Goals as goal

pub overflow_add-result : goal.overflow_add-result
overflow_add-result c = record { fits = omega (arith, (sizes_of_lem _ _ c.args.self.in_range).high) }
