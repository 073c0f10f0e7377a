-- A number below 10 is one digit. Any other is the digits of a tenth of it, which the call of itself stores, and one more behind them.
use Rattle.std.proofs.Common.{arith, [], ◌∷◌, ◌+◌, ◌/◌, ◌%◌, ◌≤◌, ◌<◌}
use Rattle.text.specs.Decimal.{decimal_of}
use Rattle.text.proofs.Digits.{decimal_first, decimal_first_length, decimal_more, decimal_more_length}
use Rattle.text.proofs.Pieces.{piece, pieces, put_more}
use Rattle.text.proofs.put.+put_number.Goals as goal

pub put_byte-requires : goal.put_byte-requires
put_byte-requires t c =
    let small : c.args.n < 10 = omega arith in
    omega (arith, decimal_first_length c.args.n small)

pub put_number-next-requires : goal.put_number-next-requires
put_number-next-requires t c =
    let big : 10 ≤ c.args.n = omega arith in
    (omega arith, omega (arith, decimal_more_length c.args.n big (omega arith)))

pub put_byte-requires-else-n-lt10 : goal.put_byte-requires-else-n-lt10
put_byte-requires-else-n-lt10 t c =
    let big : 10 ≤ c.args.n = omega arith in
    omega (arith, decimal_more_length c.args.n big (omega arith))

pub returns-then-n-lt10 : goal.returns-then-n-lt10
returns-then-n-lt10 t c =
    let small : c.args.n < 10 = omega arith in
    rw (decimal_first c.args.n small) c.put_byte.ensures

pub returns-else-n-lt10 : goal.returns-else-n-lt10
returns-else-n-lt10 t c =
    let big : 10 ≤ c.args.n = omega arith in
    rw (decimal_more c.args.n big (omega arith))
    (pieces
    (put_more
    (piece (decimal_of (c.args.n / 10)) _ _ c.put_number-next.ensures)
    (piece ((48 + c.args.n % 10) ∷ []) _ _ c.put_byte-else-n-lt10.ensures)))
