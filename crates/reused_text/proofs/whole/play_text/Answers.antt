-- What the scan says decides, and then the length of the lent log.
use Rattle.std.proofs.Common.{arith, Err, ap, ◌∙◌}
use Rattle.std.proofs.lemmas.Result.{err_from_is_err_and}
use Rattle.writer.specs.declared.TextRefusal.{TextRefusal}
use Rattle.reused_text.specs.Played.{ran_as}
use Rattle.reused_text.proofs.Wholes.{accepted, told_small, told_entries, ran_refused, ran_short, ran_done}
use Rattle.reused_text.proofs.whole.play_text.Goals as goal

pub returns-in_err-told : goal.returns-in_err-told
returns-in_err-told c =
    let p = err_from_is_err_and c.from_residual.result c.from_residual.ensures.1 in
    let told = ran_refused c.args.text.now c.in_err-told.field-0.0 c.in_err-told.ensures c.args.log.now in
    (ap ran_as (p.1 ∙ ap (λ (e : TextRefusal). Err e) p.2) ∙ told.0, told.1)

pub overflow_mul-need : goal.overflow_mul-need
overflow_mul-need c =
    let a = accepted c.args.text.now c.in_ok-told.told c.in_ok-told.ensures in
    omega (arith, (told_small c.args.text.now a.0 _ a.1).1)

pub overflow_add-need : goal.overflow_add-need
overflow_add-need c =
    let a = accepted c.args.text.now c.in_ok-told.told c.in_ok-told.ensures in
    omega (arith, (told_small c.args.text.now a.0 _ a.1).1)

pub returns-then-log-need : goal.returns-then-log-need
returns-then-log-need c =
    let a = accepted c.args.text.now c.in_ok-told.told c.in_ok-told.ensures in
    rw c.from.ensures (ran_short c.args.text.now a.0 c.args.log.now (rw (← told_entries c.args.text.now a.0 _ a.1) c.if-log-need.true))

pub run_entries-requires : goal.run_entries-requires
run_entries-requires c =
    let a = accepted c.args.text.now c.in_ok-told.told c.in_ok-told.ensures in
    (a.0, a.1, c.if-log-need.false)

pub returns : goal.returns
returns c =
    let a = accepted c.args.text.now c.in_ok-told.told c.in_ok-told.ensures in
    let same = told_entries c.args.text.now a.0 _ a.1 in
    ran_done c.args.text.now a.0 c.args.log.now (rw (← same) c.if-log-need.false) _ same _ c.run_entries.ensures
