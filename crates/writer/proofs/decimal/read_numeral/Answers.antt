-- The front, and then digit by digit.
use Rattle.std.proofs.Common.{arith, ◌≡◌, ◌+◌, ◌-◌, ◌*◌, ◌≤◌, true, length, drop, slice_index_or, refl, sym, ◌∙◌}
use Rattle.std.specs.Char.{is_ascii_digit}
use Rattle.writer.proofs.Digits.{digit_next, digit_not, said_next, said_end, digits_end, numeral_front, numeral_none, numeral_small, numeral_large}
use Rattle.writer.proofs.Further.{part_from}
use Rattle.writer.proofs.decimal.read_numeral.Goals as goal

pub returns-then-not-front_fine : goal.returns-then-not-front_fine
returns-then-not-front_fine c = sym (numeral_front c.args.b.now (sym c.if-not-front_fine.ensures))

pub returns-then-not-is_ascii_digit : goal.returns-then-not-is_ascii_digit
returns-then-not-is_ascii_digit c =
    let b = c.args.b.now in
    let i = c.loop-i.i in
    sym (numeral_none b (c.loop-i.invariant.digits ∙ digit_not b i c.loop-i-test.true (sym c.if-not-is_ascii_digit.ensures.value)))

pub returns-in_default : goal.returns-in_default
returns-in_default c =
    let b = c.args.b.now in
    let i = c.loop-i.i in
    let w = c.loop-i.value * 10 + (slice_index_or b i 0 - 48) in
    let says = c.loop-i.invariant.says ∙ said_next b i c.loop-i-test.true c.loop-i.value w refl in
    rw (c.larger.ensures, part_from b i, ← c.loop-i.invariant.digits)
    (sym (numeral_large b (sym c.if-not-front_fine.ensures) (drop (i + 1) b) w says (omega (arith, c.in_default.ensures, c.from.ensures))))

pub loop-i-preserved : goal.loop-i-preserved
loop-i-preserved c =
    let b = c.args.b.now in
    let i = c.loop-i.i in
    let digit : is_ascii_digit (slice_index_or b i 0) ≡ true = sym c.if-not-is_ascii_digit.ensures.value in
    let next : c.in-Some.next ≡ c.loop-i.value * 10 + (slice_index_or b i 0 - 48) = omega (arith, c.in-Some.ensures, c.from.ensures) in
    record {
      small = omega (arith, c.in-Some.ensures);
      digits = c.loop-i.invariant.digits ∙ digit_next b i c.loop-i-test.true digit;
      says = c.loop-i.invariant.says ∙ said_next b i c.loop-i-test.true c.loop-i.value c.in-Some.next next;
    }

pub returns : goal.returns
returns c =
    let b = c.args.b.now in
    let i = c.loop-i.i in
    let inv = c.loop-i.invariant in
    let end : length b ≤ i = c.loop-i-test.false in
    sym (numeral_small b (sym c.if-not-front_fine.ensures) c.loop-i.value (inv.digits ∙ digits_end b i end) (inv.says ∙ said_end b i c.loop-i.value end) inv.small)
