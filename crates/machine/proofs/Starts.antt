-- No two starts say the same in the documents' numbers.
use mathlib.Core.Path.{◌≡◌, ap, ◌∙◌}
use Rattle.std.specs.Prelude.{Result}
use Rattle.numbers.specs.declared.Refusal.{Refusal}
use Rattle.numbers.proofs.Refusals.{same_answer}
use Rattle.machine.specs.Types.{State, Started}
use Rattle.machine.specs.State.{StartGiven, started_as}

made : State → Result (Unit {0}) Refusal → Started
made state start = record { state = state; start = start }

pub same_started : (x y : Started) → started_as x ≡ started_as y → x ≡ y
unfolding made
same_started x y e =
    ap (λ (state : State). made state x.start) (ap (λ (g : StartGiven). g.state) e)
    ∙ ap (made y.state) (same_answer x.start y.start (ap (λ (g : StartGiven). g.number) e))
