-- The pieces passed stand at the front, one behind the other.
use Rattle.std.proofs.Common.{take}
use Rattle.text.specs.Pieces.{text_of_pieces}
use Rattle.text.proofs.Pieces.{Put}
use Rattle.text.proofs.line.write_pieces.Given as goal

abbrev pub invariant-loop-piece : goal.invariant-loop-piece
invariant-loop-piece l = Put (text_of_pieces (take l.piece-index l.pieces)) l.initial.out 0 l.out l.at
