use Rattle.std.proofs.Common.{sym, arith}
use Rattle.text.proofs.Digits.{decimal_first_length, power_length}
use Rattle.text.proofs.field.count_digits.Goals as goal

pub returns-in-Some : goal.returns-in-Some
returns-in-Some c =
    sym (power_length c.in-Some.power c.args.n c.in-Some.ensures.power_le c.in-Some.ensures.next_power_gt (omega arith))

pub returns-in-None : goal.returns-in-None
returns-in-None c = sym (decimal_first_length c.args.n (omega (arith, c.in-None.ensures.none)))
