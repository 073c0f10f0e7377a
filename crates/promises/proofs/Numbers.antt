-- The promise of each public function of `numbers` determines what it answers and what it leaves behind each `&mut`.
use mathlib.Core.Path.{refl}
use Rattle.promises.specs.Determined.{Determined}
use Rattle.promises.proofs.Same.{same_result, same_result_too, same_told}
use Rattle.numbers.specs.Refusals.{number_in}
use Rattle.numbers.proofs.Refusals.{same_answer}
use Rattle.numbers.specs.contracts.Process.seat
use Rattle.numbers.specs.contracts.Refusal.number
use Rattle.numbers.specs.contracts.both
use Rattle.numbers.specs.contracts.check_range
use Rattle.numbers.specs.contracts.either
use Rattle.numbers.specs.contracts.first_found
use Rattle.numbers.specs.contracts.in_range
use Rattle.numbers.specs.contracts.n_in_range
use Rattle.numbers.specs.contracts.number_unless
use Rattle.numbers.specs.contracts.wide

module _ {M : Type 1} where
  pub in_range_determined : Determined M in_range.ended (λ 𝓤. in_range.clauses {𝓤 = 𝓤}) (λ 𝓤. in_range.spec {𝓤 = 𝓤})
  in_range_determined = (λ 𝓤 𝓛 mem run. refl, λ κs a k l. (same_result k l k.met l.met, refl))

  pub n_in_range_determined : Determined M n_in_range.ended (λ 𝓤. n_in_range.clauses {𝓤 = 𝓤}) (λ 𝓤. n_in_range.spec {𝓤 = 𝓤})
  n_in_range_determined = (λ 𝓤 𝓛 mem run. refl, λ κs a k l. (same_result k l k.met l.met, refl))

  pub check_range_determined : Determined M check_range.ended (λ 𝓤. check_range.clauses {𝓤 = 𝓤}) (λ 𝓤. check_range.spec {𝓤 = 𝓤})
  check_range_determined = (λ 𝓤 𝓛 mem run. refl, λ κs a k l. (same_told k l number_in same_answer k.met l.met, refl))

  pub process_seat_determined : Determined M seat.ended (λ 𝓤. seat.clauses {𝓤 = 𝓤}) (λ 𝓤. seat.spec {𝓤 = 𝓤})
  process_seat_determined = (λ 𝓤 𝓛 mem run. refl, λ κs a k l. (same_result k l k.met l.met, refl))

  pub refusal_number_determined : Determined M number.ended (λ 𝓤. number.clauses {𝓤 = 𝓤}) (λ 𝓤. number.spec {𝓤 = 𝓤})
  refusal_number_determined = (λ 𝓤 𝓛 mem run. refl, λ κs a k l. (same_result k l k.met l.met, refl))

  pub both_determined : Determined M both.ended (λ 𝓤. both.clauses {𝓤 = 𝓤}) (λ 𝓤. both.spec {𝓤 = 𝓤})
  both_determined = (λ 𝓤 𝓛 mem run. refl, λ κs a k l. (same_result k l k.met l.met, refl))

  pub either_determined : Determined M either.ended (λ 𝓤. either.clauses {𝓤 = 𝓤}) (λ 𝓤. either.spec {𝓤 = 𝓤})
  either_determined = (λ 𝓤 𝓛 mem run. refl, λ κs a k l. (same_result k l k.met l.met, refl))

  pub number_unless_determined : Determined M number_unless.ended (λ 𝓤. number_unless.clauses {𝓤 = 𝓤}) (λ 𝓤. number_unless.spec {𝓤 = 𝓤})
  number_unless_determined = (λ 𝓤 𝓛 mem run. refl, λ κs a k l. (same_result k l k.met l.met, refl))

  pub first_found_determined : Determined M first_found.ended (λ 𝓤. first_found.clauses {𝓤 = 𝓤}) (λ 𝓤. first_found.spec {𝓤 = 𝓤})
  first_found_determined = (λ 𝓤 𝓛 mem run. refl, λ κs a k l. (same_result k l k.met l.met, refl))

  pub wide_determined : Determined M wide.ended (λ 𝓤. wide.clauses {𝓤 = 𝓤}) (λ 𝓤. wide.spec {𝓤 = 𝓤})
  wide_determined = (λ 𝓤 𝓛 mem run. refl, λ κs a k l. (same_result_too k l k.met l.met, refl))
