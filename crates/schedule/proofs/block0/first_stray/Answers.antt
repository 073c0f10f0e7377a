-- The first byte of the second part that is not zero stands at the first place at which one isn't.
use Rattle.std.proofs.Common.{◌≡◌, ℕ, ◌+◌, ◌<◌, List, length, take, drop, get_or, sym, ◌∙◌, arith, rules, tests, get_or-take, get_or-drop}
use Rattle.std.proofs.lemmas.Iterator.{IsFirst-from_position, YieldsList-from_slice}
use Rattle.std.proofs.option.Match.{if_some, if_none}
use Rattle.schedule.proofs.Laws.{part_length, stray_first, stray_none}
use Rattle.schedule.proofs.block0.first_stray.Goals as goal

-- a byte of that part
at : (b : List ℕ) (k : ℕ) → k < 492 → get_or (take 492 (drop 18 b)) k 0 ≡ get_or b (18 + k) 0
at b k h = get_or-take 492 (drop 18 b) k 0 h ∙ get_or-drop 18 b k 0

pub returns-in-Some : goal.returns-in-Some
returns-in-Some c =
    let b = c.args.b.now in
    let i = c.in-Some.i in
    let first =
    if_some _ _ _ c.in-Some.is
    (IsFirst-from_position _ _ _ (λ x. x ≡ 0 → ⊥) (λ x. x ≡ 0) c.position.ensures.ran (YieldsList-from_slice _ c.iter.ensures.rest)
    (λ x q k. search (rules, tests)) (λ x q k. search (rules, tests))) in
    let many : length (take 492 (drop 18 b)) ≡ 492 = part_length b 18 492 (omega arith) in
    let l : i < 492 = rw many at first.0 in
    rw (c.if-b-ne0.false)
    (sym (stray_first b 18 492 i l (omega arith) (λ e. first.1 0 (at b i l ∙ e)) (λ k m. sym (at b k (omega arith)) ∙ first.2 k 0 (omega arith) m)))

pub returns-in-None : goal.returns-in-None
returns-in-None c =
    let b = c.args.b.now in
    let none =
    if_none _ _ c.in-None.is
    (IsFirst-from_position _ _ _ (λ x. x ≡ 0 → ⊥) (λ x. x ≡ 0) c.position.ensures.ran (YieldsList-from_slice _ c.iter.ensures.rest)
    (λ x q k. search (rules, tests)) (λ x q k. search (rules, tests))) in
    let many : length (take 492 (drop 18 b)) ≡ 492 = part_length b 18 492 (omega arith) in
    rw (c.if-b-ne0.false) (sym (stray_none b 18 492 (λ k m. sym (at b k m) ∙ none k 0 (omega arith) (rw many m))))
