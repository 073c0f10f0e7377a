-- The promise of each public function of `reused_text` determines what it answers and what it leaves behind each `&mut`.
use mathlib.Core.Path.{refl}
use Rattle.promises.specs.Determined.{Determined}
use Rattle.promises.proofs.Same.{same_told_both}
use Rattle.reused_text.specs.Played.{ran_as}
use Rattle.reused_text.proofs.Wholes.{same_ran}
use Rattle.reused_text.specs.contracts.whole.play_text

module _ {M : Type 1} where
  pub play_text_determined : Determined M play_text.ended (λ 𝓤. play_text.clauses {𝓤 = 𝓤}) (λ 𝓤. play_text.spec {𝓤 = 𝓤})
  play_text_determined = (λ 𝓤 𝓛 mem run. refl, λ κs a k l. same_told_both k l ran_as same_ran (λ v. (k.last.0, (v, k.last.1.1))) k.met l.met)
