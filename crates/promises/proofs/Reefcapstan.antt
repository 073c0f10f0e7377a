-- The promise of each public function of `reefcapstan` determines what it answers and what it leaves behind each `&mut`.
use mathlib.Core.Path.{refl}
use Rattle.promises.specs.Determined.{Determined}
use Rattle.promises.proofs.Same.{same_both}
use Rattle.reefcapstan.specs.contracts.reefcapstan_run
use Rattle.reefcapstan.specs.contracts.reefcapstan_write
use Rattle.reefcapstan.specs.contracts.reefcapstan_list

module _ {M : Type 1} where
  pub reefcapstan_run_determined : Determined M reefcapstan_run.ended (λ 𝓤. reefcapstan_run.clauses {𝓤 = 𝓤}) (λ 𝓤. reefcapstan_run.spec {𝓤 = 𝓤})
  reefcapstan_run_determined = (λ 𝓤 𝓛 mem run. refl, λ κs a k l. same_both k l (λ v. (k.last.0, (v, k.last.1.1))) k.met l.met)

  pub reefcapstan_write_determined : Determined M reefcapstan_write.ended (λ 𝓤. reefcapstan_write.clauses {𝓤 = 𝓤}) (λ 𝓤. reefcapstan_write.spec {𝓤 = 𝓤})
  reefcapstan_write_determined = (λ 𝓤 𝓛 mem run. refl, λ κs a k l. same_both k l (λ v. (k.last.0, (v, k.last.1.1))) k.met l.met)

  pub reefcapstan_list_determined : Determined M reefcapstan_list.ended (λ 𝓤. reefcapstan_list.clauses {𝓤 = 𝓤}) (λ 𝓤. reefcapstan_list.spec {𝓤 = 𝓤})
  reefcapstan_list_determined = (λ 𝓤 𝓛 mem run. refl, λ κs a k l. same_both k l (λ v. (k.last.0, (v, k.last.1.1))) k.met l.met)
