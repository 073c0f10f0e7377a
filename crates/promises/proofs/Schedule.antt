-- The promise of each public function of `schedule` determines what it answers and what it leaves behind each `&mut`.
use mathlib.Core.Path.{refl}
use Rattle.promises.specs.Determined.{Determined, DeterminedBy}
use Rattle.promises.proofs.Same.{same_result, same_result_too, same_told, same_list}
use Rattle.schedule.specs.Told.{first_block_of, later_block_of, reading_of}
use Rattle.schedule.proofs.Told.{same_first, same_later, same_reading}
use Rattle.schedule.specs.contracts.block0.read_first
use Rattle.schedule.specs.contracts.check.check_of
use Rattle.schedule.specs.contracts.file.block_of
use Rattle.schedule.specs.contracts.file.read_file
use Rattle.schedule.specs.contracts.later.read_block
use Rattle.schedule.specs.contracts.later.used_entries
use Rattle.schedule.specs.contracts.later.entries_of
use Rattle.schedule.specs.contracts.later.entry_at
use Rattle.schedule.specs.contracts.later.read_fields
use Rattle.schedule.specs.contracts.later.fields_at

module _ {M : Type 1} where
  pub read_first_determined : Determined M read_first.ended (λ 𝓤. read_first.clauses {𝓤 = 𝓤}) (λ 𝓤. read_first.spec {𝓤 = 𝓤})
  read_first_determined = (λ 𝓤 𝓛 mem run. refl, λ κs a k l. (same_told k l first_block_of same_first k.met l.met, refl))

  pub check_of_determined : Determined M check_of.ended (λ 𝓤. check_of.clauses {𝓤 = 𝓤}) (λ 𝓤. check_of.spec {𝓤 = 𝓤})
  check_of_determined = (λ 𝓤 𝓛 mem run. refl, λ κs a k l. (same_result k l k.met l.met, refl))

  pub block_of_determined : DeterminedBy M block_of.ended (λ 𝓤. block_of.clauses {𝓤 = 𝓤}) (λ κs r. r.now) (λ 𝓤. block_of.spec {𝓤 = 𝓤})
  block_of_determined = (λ 𝓤 𝓛 mem run. refl, λ κs a k l. (same_list k l k.met l.met, refl))

  pub read_file_determined : Determined M read_file.ended (λ 𝓤. read_file.clauses {𝓤 = 𝓤}) (λ 𝓤. read_file.spec {𝓤 = 𝓤})
  read_file_determined = (λ 𝓤 𝓛 mem run. refl, λ κs a k l. (same_told k l reading_of same_reading k.met l.met, refl))

  pub read_block_determined : Determined M read_block.ended (λ 𝓤. read_block.clauses {𝓤 = 𝓤}) (λ 𝓤. read_block.spec {𝓤 = 𝓤})
  read_block_determined = (λ 𝓤 𝓛 mem run. refl, λ κs a k l. (same_told k l later_block_of same_later k.met l.met, refl))

  pub used_entries_determined : DeterminedBy M used_entries.ended (λ 𝓤. used_entries.clauses {𝓤 = 𝓤}) (λ κs r. r.now) (λ 𝓤. used_entries.spec {𝓤 = 𝓤})
  used_entries_determined = (λ 𝓤 𝓛 mem run. refl, λ κs a k l. (same_list k l k.met l.met, refl))

  pub entries_of_determined : DeterminedBy M entries_of.ended (λ 𝓤. entries_of.clauses {𝓤 = 𝓤}) (λ κs r. r.now) (λ 𝓤. entries_of.spec {𝓤 = 𝓤})
  entries_of_determined = (λ 𝓤 𝓛 mem run. refl, λ κs a k l. (same_list k l k.met l.met, refl))

  pub entry_at_determined : Determined M entry_at.ended (λ 𝓤. entry_at.clauses {𝓤 = 𝓤}) (λ 𝓤. entry_at.spec {𝓤 = 𝓤})
  entry_at_determined = (λ 𝓤 𝓛 mem run. refl, λ κs a k l. (same_result_too k l k.met l.met, refl))

  pub read_fields_determined : Determined M read_fields.ended (λ 𝓤. read_fields.clauses {𝓤 = 𝓤}) (λ 𝓤. read_fields.spec {𝓤 = 𝓤})
  read_fields_determined = (λ 𝓤 𝓛 mem run. refl, λ κs a k l. (same_result k l k.met l.met, refl))

  pub fields_at_determined : Determined M fields_at.ended (λ 𝓤. fields_at.clauses {𝓤 = 𝓤}) (λ 𝓤. fields_at.spec {𝓤 = 𝓤})
  fields_at_determined = (λ 𝓤 𝓛 mem run. refl, λ κs a k l. (same_result k l k.met l.met, refl))
