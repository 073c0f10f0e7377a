-- The promise of each public function of `reused` determines what it answers and what it leaves behind each `&mut`.
use mathlib.Core.Path.{refl}
use Rattle.numbers.specs.Refusals.{number_in}
use Rattle.numbers.proofs.Refusals.{same_answer}
use Rattle.promises.specs.Determined.{Determined}
use Rattle.promises.proofs.Same.{same_result, same_told}
use Rattle.reused.specs.State.{started_as}
use Rattle.reused.proofs.Starts.{same_started}
use Rattle.reused.specs.contracts.State.call
use Rattle.reused.specs.contracts.State.start
use Rattle.reused.specs.contracts.State.zero
use Rattle.reused.specs.contracts.State.is_sound
use Rattle.reused.specs.contracts.opening.check_sizes
use Rattle.reused.specs.contracts.Parts.play
use Rattle.reused.specs.contracts.Parts.are_sound
use Rattle.reused.specs.contracts.play.steps_by
use Rattle.reused.specs.contracts.play.x_changed
use Rattle.reused.specs.contracts.tell.ToldFromOutcome.from

module _ {M : Type 1} where
  pub state_call_determined : Determined M call.ended (λ 𝓤. call.clauses {𝓤 = 𝓤}) (λ 𝓤. call.spec {𝓤 = 𝓤})
  state_call_determined = (λ 𝓤 𝓛 mem run. refl, λ κs a k l. (same_result k l k.met l.met, refl))

  pub state_start_determined : Determined M start.ended (λ 𝓤. start.clauses {𝓤 = 𝓤}) (λ 𝓤. start.spec {𝓤 = 𝓤})
  state_start_determined = (λ 𝓤 𝓛 mem run. refl, λ κs a k l. (same_told k l started_as same_started k.met l.met, refl))

  pub state_zero_determined : Determined M zero.ended (λ 𝓤. zero.clauses {𝓤 = 𝓤}) (λ 𝓤. zero.spec {𝓤 = 𝓤})
  state_zero_determined = (λ 𝓤 𝓛 mem run. refl, λ κs a k l. (same_result k l k.met l.met, refl))

  pub state_is_sound_determined : Determined M is_sound.ended (λ 𝓤. is_sound.clauses {𝓤 = 𝓤}) (λ 𝓤. is_sound.spec {𝓤 = 𝓤})
  state_is_sound_determined = (λ 𝓤 𝓛 mem run. refl, λ κs a k l. (same_result k l k.met l.met, refl))

  pub check_sizes_determined : Determined M check_sizes.ended (λ 𝓤. check_sizes.clauses {𝓤 = 𝓤}) (λ 𝓤. check_sizes.spec {𝓤 = 𝓤})
  check_sizes_determined = (λ 𝓤 𝓛 mem run. refl, λ κs a k l. (same_told k l number_in same_answer k.met l.met, refl))

  pub parts_play_determined : Determined M play.ended (λ 𝓤. play.clauses {𝓤 = 𝓤}) (λ 𝓤. play.spec {𝓤 = 𝓤})
  parts_play_determined = (λ 𝓤 𝓛 mem run. refl, λ κs a k l. (same_result k l k.met l.met, refl))

  pub parts_are_sound_determined : Determined M are_sound.ended (λ 𝓤. are_sound.clauses {𝓤 = 𝓤}) (λ 𝓤. are_sound.spec {𝓤 = 𝓤})
  parts_are_sound_determined = (λ 𝓤 𝓛 mem run. refl, λ κs a k l. (same_result k l k.met l.met, refl))

  pub steps_by_determined : Determined M steps_by.ended (λ 𝓤. steps_by.clauses {𝓤 = 𝓤}) (λ 𝓤. steps_by.spec {𝓤 = 𝓤})
  steps_by_determined = (λ 𝓤 𝓛 mem run. refl, λ κs a k l. (same_result k l k.met l.met, refl))

  pub x_changed_determined : Determined M x_changed.ended (λ 𝓤. x_changed.clauses {𝓤 = 𝓤}) (λ 𝓤. x_changed.spec {𝓤 = 𝓤})
  x_changed_determined = (λ 𝓤 𝓛 mem run. refl, λ κs a k l. (same_result k l k.met l.met, refl))

  pub told_from_outcome_from_determined : Determined M from.ended (λ 𝓤. from.clauses {𝓤 = 𝓤}) (λ 𝓤. from.spec {𝓤 = 𝓤})
  told_from_outcome_from_determined = (λ 𝓤 𝓛 mem run. refl, λ κs a k l. (same_result k l k.met l.met, refl))
