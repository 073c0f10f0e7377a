-- The number's digits and one byte behind them, where they fit.
use Rattle.std.proofs.Common.{arith, [], ◌∷◌, ◌+◌, ◌-◌, ◌≤◌, ◌<◌, length, sym, ◌∙◌, length-append}
use Rattle.std.proofs.lemmas.Bool.{ltb-true}
use Rattle.text.specs.Decimal.{decimal_of}
use Rattle.text.specs.Lines.{field}
use Rattle.text.proofs.Pieces.{piece, stored_fits}
use Rattle.text.proofs.field.write_field.Goals as goal

pub returns-then-has_room : goal.returns-then-has_room
returns-then-has_room c =
    let a = c.args in
    let room : length (decimal_of a.n) < length a.out.now - a.at =
    ltb-true (length (decimal_of a.n)) (length a.out.now - a.at) (sym c.has_room.ensures ∙ c.if-has_room.true) in
    let fits : a.at + length (field a.n a.end) ≤ length a.out.now =
    rw (length-append (decimal_of a.n) (a.end ∷ [])) (omega arith) in
    stored_fits fits (piece (field a.n a.end) _ _ c.put_field.ensures)
