-- The promise of each public function of `step` determines what it answers and what it leaves behind each `&mut`.
use mathlib.Core.Path.{refl}
use Rattle.promises.specs.Determined.{Determined}
use Rattle.promises.proofs.Same.{same_result}
use Rattle.step.specs.contracts.answer.ToldFromOutcome.from
use Rattle.step.specs.contracts.Record.request
use Rattle.step.specs.contracts.Record.reached_row
use Rattle.step.specs.contracts.Place.own_steps
use Rattle.step.specs.contracts.Record.fresh
use Rattle.step.specs.contracts.Parts.step
use Rattle.step.specs.contracts.Parts.as_was
use Rattle.step.specs.contracts.Row.old_in_range
use Rattle.step.specs.contracts.TagPartialEq.eq

module _ {M : Type 1} where
  pub told_from_outcome_from_determined : Determined M from.ended (λ 𝓤. from.clauses {𝓤 = 𝓤}) (λ 𝓤. from.spec {𝓤 = 𝓤})
  told_from_outcome_from_determined = (λ 𝓤 𝓛 mem run. refl, λ κs a k l. (same_result k l k.met l.met, refl))

  pub record_request_determined : Determined M request.ended (λ 𝓤. request.clauses {𝓤 = 𝓤}) (λ 𝓤. request.spec {𝓤 = 𝓤})
  record_request_determined = (λ 𝓤 𝓛 mem run. refl, λ κs a k l. (same_result k l k.met l.met, refl))

  pub record_reached_row_determined : Determined M reached_row.ended (λ 𝓤. reached_row.clauses {𝓤 = 𝓤}) (λ 𝓤. reached_row.spec {𝓤 = 𝓤})
  record_reached_row_determined = (λ 𝓤 𝓛 mem run. refl, λ κs a k l. (same_result k l k.met l.met, refl))

  pub place_own_steps_determined : Determined M own_steps.ended (λ 𝓤. own_steps.clauses {𝓤 = 𝓤}) (λ 𝓤. own_steps.spec {𝓤 = 𝓤})
  place_own_steps_determined = (λ 𝓤 𝓛 mem run. refl, λ κs a k l. (same_result k l k.met l.met, refl))

  pub record_fresh_determined : Determined M fresh.ended (λ 𝓤. fresh.clauses {𝓤 = 𝓤}) (λ 𝓤. fresh.spec {𝓤 = 𝓤})
  record_fresh_determined = (λ 𝓤 𝓛 mem run. refl, λ κs a k l. (same_result k l k.met l.met, refl))

  pub parts_step_determined : Determined M step.ended (λ 𝓤. step.clauses {𝓤 = 𝓤}) (λ 𝓤. step.spec {𝓤 = 𝓤})
  parts_step_determined = (λ 𝓤 𝓛 mem run. refl, λ κs a k l. (same_result k l k.met l.met, refl))

  pub parts_as_was_determined : Determined M as_was.ended (λ 𝓤. as_was.clauses {𝓤 = 𝓤}) (λ 𝓤. as_was.spec {𝓤 = 𝓤})
  parts_as_was_determined = (λ 𝓤 𝓛 mem run. refl, λ κs a k l. (same_result k l k.met l.met, refl))

  pub row_old_in_range_determined : Determined M old_in_range.ended (λ 𝓤. old_in_range.clauses {𝓤 = 𝓤}) (λ 𝓤. old_in_range.spec {𝓤 = 𝓤})
  row_old_in_range_determined = (λ 𝓤 𝓛 mem run. refl, λ κs a k l. (same_result k l k.met l.met, refl))

  pub tag_partial_eq_eq_determined : Determined M eq.ended (λ 𝓤. eq.clauses {𝓤 = 𝓤}) (λ 𝓤. eq.spec {𝓤 = 𝓤})
  tag_partial_eq_eq_determined = (λ 𝓤 𝓛 mem run. refl, λ κs a k l. (same_result k l k.met l.met, refl))
