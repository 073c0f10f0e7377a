-- No two starts tell the same state and the same number.
use mathlib.Core.Path.{◌≡◌, ap}
use Rattle.numbers.proofs.Refusals.{same_answer}
use Rattle.reused.specs.Types.{Started}
use Rattle.reused.specs.State.{StartGiven, started_as}

pub same_started : (r s : Started) → started_as r ≡ started_as s → r ≡ s
same_started r s e =
    let states : r.state ≡ s.state = ap (λ (g : StartGiven). g.state) e in
    let starts : r.start ≡ s.start = same_answer r.start s.start (ap (λ (g : StartGiven). g.number) e) in
    λ i. record { state = states i; start = starts i }
