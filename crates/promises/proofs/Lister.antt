-- The promise of each public function of `lister` determines what it answers and what it leaves behind each `&mut`.
use mathlib.Core.Path.{refl}
use Rattle.promises.specs.Determined.{Determined}
use Rattle.promises.proofs.Same.{same_told_both}
use Rattle.lister.specs.Told.{listed_as}
use Rattle.lister.proofs.Told.{same_listed}
use Rattle.lister.specs.contracts.listing.list_file

module _ {M : Type 1} where
  pub list_file_determined : Determined M list_file.ended (λ 𝓤. list_file.clauses {𝓤 = 𝓤}) (λ 𝓤. list_file.spec {𝓤 = 𝓤})
  list_file_determined = (λ 𝓤 𝓛 mem run. refl, λ κs a k l. same_told_both k l listed_as same_listed (λ v. (k.last.0, (v, k.last.1.1))) k.met l.met)
