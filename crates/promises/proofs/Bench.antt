-- The promise of each public function of `bench` determines what it answers and what it leaves behind each `&mut`.
use mathlib.Core.Path.{refl}
use Rattle.promises.specs.Determined.{Determined}
use Rattle.promises.proofs.Same.{same_result, same_told_both}
use Rattle.bench.specs.Told.{ran_as}
use Rattle.bench.proofs.Told.{same_ran}
use Rattle.bench.specs.contracts.note.note_of
use Rattle.bench.specs.contracts.whole.run

module _ {M : Type 1} where
  pub note_of_determined : Determined M note_of.ended (λ 𝓤. note_of.clauses {𝓤 = 𝓤}) (λ 𝓤. note_of.spec {𝓤 = 𝓤})
  note_of_determined = (λ 𝓤 𝓛 mem run. refl, λ κs a k l. (same_result k l k.met l.met, refl))

  pub run_determined : Determined M run.ended (λ 𝓤. run.clauses {𝓤 = 𝓤}) (λ 𝓤. run.spec {𝓤 = 𝓤})
  run_determined = (λ 𝓤 𝓛 mem run. refl, λ κs a k l. same_told_both k l ran_as same_ran (λ v. (k.last.0, (v, k.last.1.1))) k.met l.met)
