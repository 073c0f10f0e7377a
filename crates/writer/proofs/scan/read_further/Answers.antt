use Rattle.std.proofs.Common.{arith, ◌≡◌, ◌+◌, true, length, sym, ◌∙◌}
use Rattle.std.proofs.lemmas.Bool.{eqb-true, eqb-false}
use Rattle.text.specs.Lines.{newline}
use Rattle.writer.proofs.Further.{over_next, over_outside, over_left, over_end, not_read, was_read, behind_length}
use Rattle.writer.proofs.scan.read_further.Goals as goal

pub returns-then-is_none : goal.returns-then-is_none
returns-then-is_none g c =
    let e = c.loop-line.entries in
    let here = c.in-Some.ensures.2 in
    let form = not_read _ _ c.read_line.ensures (sym c.if-is_none.ensures) in
    sym (c.loop-line.invariant.same ∙ over_outside g.F.TextForm.fine (e + 2) e c.loop-line.rest.now (omega arith) here.0 (rw (← here.1) form))

pub loop-line-preserved : goal.loop-line-preserved
loop-line-preserved g c =
    let e = c.loop-line.entries in
    let rest = c.loop-line.rest.now in
    let here = c.in-Some.ensures.2 in
    let form : g.F.TextForm.fine c.in-Some.line.now ≡ true = was_read _ _ c.read_line.ensures (sym c.if-is_none.ensures) in
    let number : e + 1 + 2 ≡ e + 2 + 1 = omega arith in
    let next = behind_length newline rest here.0 in
    record {
      few = rw here.2 (omega (arith, next, c.loop-line.invariant.few));
      same = rw (here.2, number) (c.loop-line.invariant.same ∙ over_next g.F.TextForm.fine (e + 2) e rest here.0 (rw (← here.1) form));
    }

pub returns-then-is_empty : goal.returns-then-is_empty
returns-then-is_empty g c =
    let e = c.loop-line.entries in
    let rest = c.loop-line.rest.now in
    let none : length rest ≡ 0 = eqb-true (length rest) 0 (sym c.if-is_empty.ensures) in
    sym (c.loop-line.invariant.same ∙ over_end g.F.TextForm.fine (e + 2) e rest none)

pub returns-else-is_empty : goal.returns-else-is_empty
returns-else-is_empty g c =
    let e = c.loop-line.entries in
    let rest = c.loop-line.rest.now in
    let some = eqb-false (length rest) 0 (sym c.if-is_empty.ensures) in
    let here = c.in_default.ensures.1 in
    sym (c.loop-line.invariant.same ∙ over_left g.F.TextForm.fine (e + 2) e rest (omega arith) here (omega (arith, some)))
