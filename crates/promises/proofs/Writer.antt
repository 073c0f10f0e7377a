-- The promise of each public function of `writer` determines what it answers and what it leaves behind each `&mut`.
use mathlib.Core.Path.{refl}
use base.Stored.{coded_list, coded_ℕ, coded×}
use denote.RattleType.{RattleType}
use mir.Syntax.{Dict}
use Rattle.std.specs.declared.clone.Clone
use Rattle.writer.specs.declared.scan.TextForm
use Rattle.promises.specs.Determined.{Determined, DeterminedBy}
use Rattle.promises.proofs.Same.{same_result, same_told_both, same_seen, coded_option}
use Rattle.writer.specs.Parts.{halves_in, letter_in}
use Rattle.writer.specs.Writer.{written_as}
use Rattle.writer.proofs.Answers.{same_written}
use Rattle.writer.specs.contracts.TextRefusalFromRefusal.from
use Rattle.writer.specs.contracts.decimal.read_numeral
use Rattle.writer.specs.contracts.decimal.read_size
use Rattle.writer.specs.contracts.file.write_text
use Rattle.writer.specs.contracts.find.place_of
use Rattle.writer.specs.contracts.find.split_once
use Rattle.writer.specs.contracts.form.read_line
use Rattle.writer.specs.contracts.form.split_letter
use Rattle.writer.specs.contracts.scan.read_text

module _ {M : Type 1} where
  pub write_text_determined : Determined M write_text.ended (λ 𝓤. write_text.clauses {𝓤 = 𝓤}) (λ 𝓤. write_text.spec {𝓤 = 𝓤})
  write_text_determined = (λ 𝓤 𝓛 mem run. refl, λ κs a k l. same_told_both k l written_as same_written (λ v. (k.last.0, (v, k.last.1.1))) k.met l.met)

  pub place_of_determined : Determined M place_of.ended (λ 𝓤. place_of.clauses {𝓤 = 𝓤}) (λ 𝓤. place_of.spec {𝓤 = 𝓤})
  place_of_determined = (λ 𝓤 𝓛 mem run. refl, λ κs a k l. (same_result k l k.met l.met, refl))

  pub read_numeral_determined : Determined M read_numeral.ended (λ 𝓤. read_numeral.clauses {𝓤 = 𝓤}) (λ 𝓤. read_numeral.spec {𝓤 = 𝓤})
  read_numeral_determined = (λ 𝓤 𝓛 mem run. refl, λ κs a k l. (same_result k l k.met l.met, refl))

  pub read_line_determined : Determined M read_line.ended (λ 𝓤. read_line.clauses {𝓤 = 𝓤}) (λ 𝓤. read_line.spec {𝓤 = 𝓤})
  read_line_determined = (λ 𝓤 𝓛 mem run. refl, λ κs a k l. (same_result k l k.met l.met, refl))

  pub read_size_determined : Determined M read_size.ended (λ 𝓤. read_size.clauses {𝓤 = 𝓤}) (λ 𝓤. read_size.spec {𝓤 = 𝓤})
  read_size_determined = (λ 𝓤 𝓛 mem run. refl, λ κs a k l. (same_result k l k.met l.met, refl))

  pub text_refusal_from_refusal_from_determined : Determined M from.ended (λ 𝓤. from.clauses {𝓤 = 𝓤}) (λ 𝓤. from.spec {𝓤 = 𝓤})
  text_refusal_from_refusal_from_determined = (λ 𝓤 𝓛 mem run. refl, λ κs a k l. (same_result k l k.met l.met, refl))

  pub split_once_determined : DeterminedBy M split_once.ended (λ 𝓤. split_once.clauses {𝓤 = 𝓤}) (λ κs r. halves_in r) (λ 𝓤. split_once.spec {𝓤 = 𝓤})
  split_once_determined = (λ 𝓤 𝓛 mem run. refl, λ κs a k l. (same_seen k l (coded_option (coded× (coded_list coded_ℕ) (coded_list coded_ℕ))) halves_in k.met l.met, refl))

  pub split_letter_determined : DeterminedBy M split_letter.ended (λ 𝓤. split_letter.clauses {𝓤 = 𝓤}) (λ κs r. letter_in r) (λ 𝓤. split_letter.spec {𝓤 = 𝓤})
  split_letter_determined = (λ 𝓤 𝓛 mem run. refl, λ κs a k l. (same_seen k l (coded_option (coded× coded_ℕ (coded_list coded_ℕ))) letter_in k.met l.met, refl))

-- for every form of texts
module _ {M : Type 1} (F O E : RattleType) (f : TextForm.Ghosts F.Denot O.Denot E.Denot) (d : Dict) (o : Clone.Ghosts O.Denot) (od : Dict) (e : Clone.Ghosts E.Denot) (ed : Dict) where
  pub read_text_determined : Determined M (read_text.ended F O E f d o od e ed) (λ 𝓤. read_text.clauses F O E f d o od e ed {𝓤 = 𝓤}) (λ 𝓤. read_text.spec F O E f d o od e ed {𝓤 = 𝓤})
  read_text_determined = (λ 𝓤 𝓛 mem run. refl, λ κs a k l. (same_result k l k.met l.met, refl))
