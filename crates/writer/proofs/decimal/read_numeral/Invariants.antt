-- All are digits exactly if those that are left are, and with what the first digits say they say the number.
use Rattle.std.proofs.Common.{◌≡◌, ◌<◌, drop}
use Rattle.text.specs.Decimal.{said, said_from}
use Rattle.writer.specs.Form.{all_digits}
use Rattle.writer.proofs.decimal.read_numeral.Given as goal

abbrev pub invariant-loop-i : goal.invariant-loop-i
invariant-loop-i l = record {
  small : l.value < 18446744073709551616;
  digits : all_digits l.b ≡ all_digits (drop l.i l.b);
  says : said l.b ≡ said_from l.value (drop l.i l.b);
}
