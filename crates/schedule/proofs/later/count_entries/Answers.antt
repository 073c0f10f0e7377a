-- A wrong check or place is told as it is.
use Rattle.std.proofs.Common.{◌≡◌, ℕ, IfOk, Result, Ok, Err, sym, ap, ◌∙◌, arith}
use Rattle.std.specs.Result.{IsErrAnd}
use Rattle.numbers.specs.declared.Refusal.{Refusal}
use Rattle.numbers.specs.Refusals.{refusal_number, number_in}
use Rattle.numbers.specs.Numbers.{number_unless}
use Rattle.numbers.proofs.Refusals.{refused}
use Rattle.schedule.specs.File.{block_number, later_fine, later_number}
use Rattle.schedule.proofs.AcceptedFile.{frame_wrong}
use Rattle.schedule.proofs.later.count_entries.Goals as goal

told : (r : Result ℕ Refusal) (e : Refusal) (m : ℕ) (P : ℕ → Type 0) → IsErrAnd r (λ x. x ≡ e) → refusal_number e ≡ m → (number_in r ≡ m) × IfOk r P
told (Ok x) e m P h n = absurd h
told (Err x) e m P h n = (ap refusal_number h ∙ n, tt)

pub returns-in_err-check_frame : goal.returns-in_err-check_frame
unfolding later_number
returns-in_err-check_frame c =
    let b = c.args.b.now in
    let k = c.args.k in
    let e = c.in_err-check_frame.field-0.0 in
    let is : refusal_number e ≡ block_number b k 0 = c.in_err-check_frame.ensures in
    let wrong = frame_wrong b k (number_unless (later_fine b) 5) (λ z. omega (arith, refused e, is, z)) in
    told c.from_residual.result e _ _ c.from_residual.ensures.1 (is ∙ sym wrong)
