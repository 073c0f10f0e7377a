use Rattle.std.proofs.Common.{arith, ◌≡◌, ℕ, length, Err, sym, ap, ◌∙◌}
use Rattle.std.proofs.Math.Seq.{length-take-le}
use Rattle.text.specs.Lines.{newline}
use Rattle.writer.specs.Form.{place_of}
use Rattle.std.proofs.lemmas.Option.{cond_some}
use Rattle.std.proofs.lemmas.Result.{err_from_is_err_and}
use Rattle.writer.proofs.Whole.{by_none, by_head, by_err, by_ok, absent}
use Rattle.writer.proofs.scan.read_text.Goals as goal

pub returns-in_default : goal.returns-in_default
returns-in_default g c = sym (by_none g.F.TextForm.headed g.F.TextForm.opening g.F.TextForm.fine c.args.text.now c.in_default.ensures.1)

pub returns-in_default-read_start : goal.returns-in_default-read_start
returns-in_default-read_start g c =
    let here = c.in-Some.ensures.2 in
    let not = absent _ _ c.in_default-read_start.ensures in
    sym (by_head g.F.TextForm.headed g.F.TextForm.opening g.F.TextForm.fine c.args.text.now (rw (← here.1) not))

pub returns-in_err-entries : goal.returns-in_err-entries
returns-in_err-entries g c =
    let here = c.in-Some.ensures.2 in
    let head = (cond_some _ _ _ (sym c.in-Some-read_start.ensures)).0 in
    let p = err_from_is_err_and c.from_residual.result c.from_residual.ensures.1 in
    p.1 ∙ ap (λ (k : ℕ). Err k) p.2
    ∙ sym (by_err g.F.TextForm.headed g.F.TextForm.opening g.F.TextForm.fine c.args.text.now here.0 (rw (← here.1) head) c.in_err-entries.field-0.0 (rw (← here.2) c.in_err-entries.ensures))

pub returns : goal.returns
returns g c =
    let text = c.args.text.now in
    let here = c.in-Some.ensures.2 in
    let head = cond_some _ _ _ (sym c.in-Some-read_start.ensures) in
    let from : length c.in-Some.line.now ≡ place_of newline text = rw here.1 (length-take-le (place_of newline text) text (omega (arith, here.0))) in
    rw (from, ← head.1, here.1)
    (sym (by_ok g.F.TextForm.headed g.F.TextForm.opening g.F.TextForm.fine text here.0 (rw (← here.1) head.0) c.in_ok-entries.entries (rw (← here.2) c.in_ok-entries.ensures)))
