-- Facts on the state after any run from a start, read off the invariants.
-- Assumes nothing.
use Prim.Native.Nat.{ℕ, ◌<◌}
use mathlib.Core.Path.{◌≡◌}
use mathlib.Core.Bool.{true, false}
use mathlib.Core.List.{List}
use native.Mathlib.Omega.{arith}
use lib.IntN.{pos, ◌-ℤ◌}
use lib.Signed.{le_z, lt_z}
use Rattle.step.specs.Steps.{is_near, same_tag}
use Rattle.linear.specs.Types.{Sequence, Load5, Entry, State}
use Rattle.numbers.specs.Numbers.{in_range}
use Rattle.machine.specs.State.{row_at, record_at, first_state}
use Rattle.machine.specs.Frame.{Ready}
use Rattle.machine.specs.Run.{after}
use Rattle.machine.proofs.Soundness.{sure}
use Rattle.machine.proofs.RunLaws.{ready_start, ready_after, size_kept}
use Rattle.linear.proofs.Lift.{not_two_below, near_is_below}
use Rattle.linear.proofs.Moved.{tag_below}
use Rattle.linear.proofs.Consequences.{tag_low, five_behind}
use Rattle.linear.proofs.Demand3.{ended}

module _ (n : ℕ) (s : Sequence) (v : ℕ) (range : in_range n s ≡ true) (es : List Entry) (p : ℕ) (l : p < n) where
  -- the state after the run, and p's kept tag [q, k] there
  abbrev pub final : State
  final = after (first_state n s v) es

  ready : Ready (after (first_state n s v) es)
  ready = ready_after (first_state n s v) es (ready_start n s v range)

  p_below : p < (after (first_state n s v) es).n
  p_below = omega (arith, (size_kept (first_state n s v) es).0)

  q_below : (record_at (after (first_state n s v) es) p).kept.process.0 < (after (first_state n s v) es).n
  q_below = tag_below (after (first_state n s v) es) p ready p_below

  -- P10: q's old number is never below k - 2; and so step 3's test says whether it is below k.
  pub old_number_not_below : le_z (pos (record_at final p).kept.number.0 -ℤ pos 2) (row_at final (record_at final p).kept.process.0).old_number ≡ true
  old_number_not_below =
      not_two_below (row_at final (record_at final p).kept.process.0).old_number (record_at final p).kept.number.0 final.s.0
      ((sure ready).each (record_at final p).kept.process.0 q_below).old (tag_low (ended n s v range es).sim.sim.inv p p_below q_below)

  pub test_is_below : is_near (row_at final (record_at final p).kept.process.0).old_number (record_at final p).kept.number.0
      ≡ lt_z (row_at final (record_at final p).kept.process.0).old_number (pos (record_at final p).kept.number.0)
  test_is_below =
      near_is_below (row_at final (record_at final p).kept.process.0).old_number (record_at final p).kept.number.0 final.s.0
      ((sure ready).each (record_at final p).kept.process.0 q_below).old (tag_low (ended n s v range es).sim.sim.inv p p_below q_below)

  -- P3: a load that stands before step 5 has a kept tag that is not X; and step 5 leaves X.
  pub step_5_not_current : (record_at final p).place ≡ Load5 → same_tag final.x (record_at final p).kept ≡ false
  step_5_not_current e = five_behind (ended n s v range es).sim.sim.inv p p_below q_below e
