-- The promise of each public function of `log` determines what it answers and what it leaves behind each `&mut`.
use mathlib.Core.Path.{refl, ap}
use Rattle.promises.specs.Determined.{Determined}
use Rattle.promises.proofs.Same.{same_result, same_list}
use Rattle.run_log.specs.contracts.read.read_head
use Rattle.run_log.specs.contracts.read.read_record
use Rattle.run_log.specs.contracts.write.lay_head
use Rattle.run_log.specs.contracts.write.write_record

module _ {M : Type 1} where
  pub read_head_determined : Determined M read_head.ended (λ 𝓤. read_head.clauses {𝓤 = 𝓤}) (λ 𝓤. read_head.spec {𝓤 = 𝓤})
  read_head_determined = (λ 𝓤 𝓛 mem run. refl, λ κs a k l. (same_result k l k.met l.met, refl))

  pub read_record_determined : Determined M read_record.ended (λ 𝓤. read_record.clauses {𝓤 = 𝓤}) (λ 𝓤. read_record.spec {𝓤 = 𝓤})
  read_record_determined = (λ 𝓤 𝓛 mem run. refl, λ κs a k l. (same_result k l k.met l.met, refl))

  pub lay_head_determined : Determined M lay_head.ended (λ 𝓤. lay_head.clauses {𝓤 = 𝓤}) (λ 𝓤. lay_head.spec {𝓤 = 𝓤})
  lay_head_determined = (λ 𝓤 𝓛 mem run. refl, λ κs a k l. (refl, ap (λ v. (v, k.last.1)) (same_list k l k.met l.met)))

  pub write_record_determined : Determined M write_record.ended (λ 𝓤. write_record.clauses {𝓤 = 𝓤}) (λ 𝓤. write_record.spec {𝓤 = 𝓤})
  write_record_determined = (λ 𝓤 𝓛 mem run. refl, λ κs a k l. (refl, ap (λ v. (v, k.last.1)) (same_list k l k.met l.met)))
