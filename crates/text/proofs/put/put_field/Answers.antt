-- The number's digits, and one byte behind them.
use Rattle.std.proofs.Common.{[], ◌∷◌}
use Rattle.text.specs.Decimal.{decimal_of}
use Rattle.text.proofs.Pieces.{piece, pieces, put_more}
use Rattle.text.proofs.put.put_field.Goals as goal

pub returns : goal.returns
returns c =
    let a = c.args in
    pieces (put_more (piece (decimal_of a.n) _ _ c.put_number-next.ensures) (piece (a.end ∷ []) _ _ c.put_byte.ensures))
