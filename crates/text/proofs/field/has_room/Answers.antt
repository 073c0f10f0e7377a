-- Twenty digits always fit; else they are counted.
use Rattle.std.proofs.Common.{arith, length, sym}
use Rattle.std.proofs.lemmas.Bool.{le-leb, lt-ltb}
use Rattle.text.specs.Decimal.{decimal_of}
use Rattle.text.proofs.Digits.{decimal_length}
use Rattle.text.proofs.field.has_room.Goals as goal

pub returns-then-room-ge21 : goal.returns-then-room-ge21
returns-then-room-ge21 c =
    rw (le-leb 21 c.args.room c.if-room-ge21.true)
    (sym (lt-ltb (length (decimal_of c.args.n)) c.args.room (omega (arith, decimal_length c.args.n))))
