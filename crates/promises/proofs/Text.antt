-- The promise of each public function of `text` determines what it answers and what it leaves behind each `&mut`.
use mathlib.Core.Path.{refl}
use Rattle.promises.specs.Determined.{Determined}
use Rattle.promises.proofs.Same.{same_result, same_both}
use Rattle.text.specs.contracts.field.count_digits
use Rattle.text.specs.contracts.field.write_field
use Rattle.text.specs.contracts.line.write_number
use Rattle.text.specs.contracts.line.write_head_line
use Rattle.text.specs.contracts.line.write_line
use Rattle.text.specs.contracts.line.write_refused_line
use Rattle.text.specs.contracts.line.write_refused_text_line
use Rattle.text.specs.contracts.line.write_head_of
use Rattle.text.specs.contracts.line.write_line_of
use Rattle.text.specs.contracts.page.write_lines_of

module _ {M : Type 1} where
  pub count_digits_determined : Determined M count_digits.ended (λ 𝓤. count_digits.clauses {𝓤 = 𝓤}) (λ 𝓤. count_digits.spec {𝓤 = 𝓤})
  count_digits_determined = (λ 𝓤 𝓛 mem run. refl, λ κs a k l. (same_result k l k.met l.met, refl))

  pub write_field_determined : Determined M write_field.ended (λ 𝓤. write_field.clauses {𝓤 = 𝓤}) (λ 𝓤. write_field.spec {𝓤 = 𝓤})
  write_field_determined = (λ 𝓤 𝓛 mem run. refl, λ κs a k l. same_both k l (λ v. (v, k.last.1)) k.met l.met)

  pub write_number_determined : Determined M write_number.ended (λ 𝓤. write_number.clauses {𝓤 = 𝓤}) (λ 𝓤. write_number.spec {𝓤 = 𝓤})
  write_number_determined = (λ 𝓤 𝓛 mem run. refl, λ κs a k l. same_both k l (λ v. (v, k.last.1)) k.met l.met)

  pub write_head_line_determined : Determined M write_head_line.ended (λ 𝓤. write_head_line.clauses {𝓤 = 𝓤}) (λ 𝓤. write_head_line.spec {𝓤 = 𝓤})
  write_head_line_determined = (λ 𝓤 𝓛 mem run. refl, λ κs a k l. same_both k l (λ v. (v, k.last.1)) k.met l.met)

  pub write_line_determined : Determined M write_line.ended (λ 𝓤. write_line.clauses {𝓤 = 𝓤}) (λ 𝓤. write_line.spec {𝓤 = 𝓤})
  write_line_determined = (λ 𝓤 𝓛 mem run. refl, λ κs a k l. same_both k l (λ v. (v, k.last.1)) k.met l.met)

  pub write_refused_line_determined : Determined M write_refused_line.ended (λ 𝓤. write_refused_line.clauses {𝓤 = 𝓤}) (λ 𝓤. write_refused_line.spec {𝓤 = 𝓤})
  write_refused_line_determined = (λ 𝓤 𝓛 mem run. refl, λ κs a k l. same_both k l (λ v. (v, k.last.1)) k.met l.met)

  pub write_refused_text_line_determined : Determined M write_refused_text_line.ended (λ 𝓤. write_refused_text_line.clauses {𝓤 = 𝓤}) (λ 𝓤. write_refused_text_line.spec {𝓤 = 𝓤})
  write_refused_text_line_determined = (λ 𝓤 𝓛 mem run. refl, λ κs a k l. same_both k l (λ v. (v, k.last.1)) k.met l.met)

  pub write_head_of_determined : Determined M write_head_of.ended (λ 𝓤. write_head_of.clauses {𝓤 = 𝓤}) (λ 𝓤. write_head_of.spec {𝓤 = 𝓤})
  write_head_of_determined = (λ 𝓤 𝓛 mem run. refl, λ κs a k l. same_both k l (λ v. (v, k.last.1)) k.met l.met)

  pub write_line_of_determined : Determined M write_line_of.ended (λ 𝓤. write_line_of.clauses {𝓤 = 𝓤}) (λ 𝓤. write_line_of.spec {𝓤 = 𝓤})
  write_line_of_determined = (λ 𝓤 𝓛 mem run. refl, λ κs a k l. same_both k l (λ v. (v, k.last.1)) k.met l.met)

  pub write_lines_of_determined : Determined M write_lines_of.ended (λ 𝓤. write_lines_of.clauses {𝓤 = 𝓤}) (λ 𝓤. write_lines_of.spec {𝓤 = 𝓤})
  write_lines_of_determined = (λ 𝓤 𝓛 mem run. refl, λ κs a k l. same_both k l (λ v. (v, k.last.1)) k.met l.met)
