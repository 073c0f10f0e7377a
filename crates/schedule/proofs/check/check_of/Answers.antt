-- A slice that is shorter than 510 bytes is weighed to its end, and past the end nothing is added.
use Rattle.std.proofs.Common.{◌≡◌, ℕ, ◌+◌, ◌-◌, ◌%◌, ◌<◌, length, sym, ap, ◌∙◌, arith}
use Rattle.std.proofs.Math.Nat.{le_refl}
use Rattle.std.proofs.option.Match.{if_some, if_none}
use Rattle.schedule.specs.File.{weighed, check_of}
use Rattle.schedule.proofs.Laws.{weighed_past, weighed_take}
use Rattle.schedule.proofs.check.check_of.Goals as goal

pub returns-in-Some : goal.returns-in-Some
unfolding check_of
returns-in-Some c =
    let b = c.args.b.now in
    let first = if_some _ _ _ c.in-Some.is c.first_chunk.ensures.cases in
    ap (λ (s : ℕ). s % 65521) (c.weigh_halves.ensures ∙ ap (λ x. weighed x 510) first.same ∙ weighed_take b 510)

pub returns-in-None : goal.returns-in-None
unfolding check_of
returns-in-None c =
    let b = c.args.b.now in
    let short : length b < 510 = if_none _ _ c.in-None.is c.first_chunk.ensures.cases in
    let e : length b + (510 - length b) ≡ 510 = omega arith in
    ap (λ (s : ℕ). s % 65521)
    (c.weigh.ensures ∙ sym (weighed_past b (length b) (510 - length b) (le_refl (length b))) ∙ ap (weighed b) e)
