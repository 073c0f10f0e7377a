-- The promise of each public function of `machine` determines what it answers and what it leaves behind each `&mut`.
use mathlib.Core.Path.{refl}
use Rattle.promises.specs.Determined.{Determined}
use Rattle.promises.proofs.Same.{same_result, same_told}
use Rattle.machine.specs.State.{started_as}
use Rattle.machine.proofs.Starts.{same_started}
use Rattle.machine.specs.contracts.State.call
use Rattle.machine.specs.contracts.State.zero
use Rattle.machine.specs.contracts.State.start
use Rattle.machine.specs.contracts.opening.start_number
use Rattle.machine.specs.contracts.parts.play_coded
use Rattle.machine.specs.contracts.parts.steps_ahead
use Rattle.machine.specs.contracts.sound.tag_is_sound
use Rattle.machine.specs.contracts.sound.next_is_sound
use Rattle.machine.specs.contracts.sound.record_is_sound
use Rattle.machine.specs.contracts.sound.parts_are_sound
use Rattle.machine.specs.contracts.State.is_sound

module _ {M : Type 1} where
  pub state_call_determined : Determined M call.ended (λ 𝓤. call.clauses {𝓤 = 𝓤}) (λ 𝓤. call.spec {𝓤 = 𝓤})
  state_call_determined = (λ 𝓤 𝓛 mem run. refl, λ κs a k l. (same_result k l k.met l.met, refl))

  pub state_zero_determined : Determined M zero.ended (λ 𝓤. zero.clauses {𝓤 = 𝓤}) (λ 𝓤. zero.spec {𝓤 = 𝓤})
  state_zero_determined = (λ 𝓤 𝓛 mem run. refl, λ κs a k l. (same_result k l k.met l.met, refl))

  pub state_start_determined : Determined M start.ended (λ 𝓤. start.clauses {𝓤 = 𝓤}) (λ 𝓤. start.spec {𝓤 = 𝓤})
  state_start_determined = (λ 𝓤 𝓛 mem run. refl, λ κs a k l. (same_told k l started_as same_started k.met l.met, refl))

  pub start_number_determined : Determined M start_number.ended (λ 𝓤. start_number.clauses {𝓤 = 𝓤}) (λ 𝓤. start_number.spec {𝓤 = 𝓤})
  start_number_determined = (λ 𝓤 𝓛 mem run. refl, λ κs a k l. (same_result k l k.met l.met, refl))

  pub play_coded_determined : Determined M play_coded.ended (λ 𝓤. play_coded.clauses {𝓤 = 𝓤}) (λ 𝓤. play_coded.spec {𝓤 = 𝓤})
  play_coded_determined = (λ 𝓤 𝓛 mem run. refl, λ κs a k l. (same_result k l k.met l.met, refl))

  pub steps_ahead_determined : Determined M steps_ahead.ended (λ 𝓤. steps_ahead.clauses {𝓤 = 𝓤}) (λ 𝓤. steps_ahead.spec {𝓤 = 𝓤})
  steps_ahead_determined = (λ 𝓤 𝓛 mem run. refl, λ κs a k l. (same_result k l k.met l.met, refl))

  pub tag_is_sound_determined : Determined M tag_is_sound.ended (λ 𝓤. tag_is_sound.clauses {𝓤 = 𝓤}) (λ 𝓤. tag_is_sound.spec {𝓤 = 𝓤})
  tag_is_sound_determined = (λ 𝓤 𝓛 mem run. refl, λ κs a k l. (same_result k l k.met l.met, refl))

  pub next_is_sound_determined : Determined M next_is_sound.ended (λ 𝓤. next_is_sound.clauses {𝓤 = 𝓤}) (λ 𝓤. next_is_sound.spec {𝓤 = 𝓤})
  next_is_sound_determined = (λ 𝓤 𝓛 mem run. refl, λ κs a k l. (same_result k l k.met l.met, refl))

  pub record_is_sound_determined : Determined M record_is_sound.ended (λ 𝓤. record_is_sound.clauses {𝓤 = 𝓤}) (λ 𝓤. record_is_sound.spec {𝓤 = 𝓤})
  record_is_sound_determined = (λ 𝓤 𝓛 mem run. refl, λ κs a k l. (same_result k l k.met l.met, refl))

  pub parts_are_sound_determined : Determined M parts_are_sound.ended (λ 𝓤. parts_are_sound.clauses {𝓤 = 𝓤}) (λ 𝓤. parts_are_sound.spec {𝓤 = 𝓤})
  parts_are_sound_determined = (λ 𝓤 𝓛 mem run. refl, λ κs a k l. (same_result k l k.met l.met, refl))

  pub state_is_sound_determined : Determined M is_sound.ended (λ 𝓤. is_sound.clauses {𝓤 = 𝓤}) (λ 𝓤. is_sound.spec {𝓤 = 𝓤})
  state_is_sound_determined = (λ 𝓤 𝓛 mem run. refl, λ κs a k l. (same_result k l k.met l.met, refl))
